-- The lines of the bytes from an offset on.
use Rattle.std.proofs.Common.{◌≡◌, ℕ, ◌+◌, ◌<◌, ◌≤◌, ◌==◌, true, false, cond, List, [], ◌∷◌, ◌++◌, length, drop, map, refl, ap, arith}
use Rattle.std.proofs.lemmas.List.{drop_all}
use Rattle.tetri_io.specs.Lines.{lines_from, onto}

abbrev pub texts_from : ℕ → List ℕ → List (List ℕ)
texts_from at bytes = map (λ l. l.0) (lines_from at bytes)

-- where no byte is left, there is none
pub none_left : (content : List ℕ) (at : ℕ) → length content ≤ at → texts_from at (drop at content) ≡ []
none_left content at past = ap (texts_from at) (drop_all at content past)
