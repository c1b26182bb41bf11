-- The words of a line.
use Rattle.std.specs.Prelude.{◌≡◌, ◌≢◌, ℕ, ◌==◌, ◌||◌, Bool, List, ◌∷◌, ◌++◌, All}
use Rattle.std.specs.List.{slice_split}

-- what stands between single bytes of this kind, before the first and behind the last
abbrev pub parts_at : ℕ → List ℕ → List (List ℕ)
parts_at mark bytes = slice_split (λ b. b == mark) bytes

-- the words of a line, with one space between
abbrev pub words_of : List ℕ → List (List ℕ)
words_of line = parts_at 32 line

-- what stands before the first byte of this kind, and what stands behind it
abbrev pub AreHalves : ℕ → List ℕ → List ℕ → List ℕ → Type 0
AreHalves mark bytes before behind = (bytes ≡ before ++ mark ∷ behind) × All (λ b. b ≢ mark) before

-- a space, a tab or a carriage return
abbrev pub is_blank : ℕ → Bool
is_blank b = b == 32 || b == 9 || b == 13
