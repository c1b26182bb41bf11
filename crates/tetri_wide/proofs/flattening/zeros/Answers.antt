use Rattle.std.proofs.Common.{◌+◌, ◌++◌, ◌∷◌, [], ℕ, List, map, drop, sym, ap, ◌∙◌}
use Rattle.std.specs.Prelude.{pos}
use Rattle.std.proofs.lemmas.List.{append_assoc, drop_more}
use lib.IntN.{ℤ}
use Rattle.tetri_wide.proofs.flattening.zeros.Goals as goal

pub loop-preserved : goal.loop-preserved
loop-preserved c =
    let f : ℕ → ℤ = λ u. pos 0 in
    let i = c.loop.index in
    let us : List ℕ = c.args.uppers.now in
    let rest = map f (drop (i + 1) us) in
    ap (λ (zs : List ℤ). zs ++ rest) c.in_ok-push.ensures.items ∙ append_assoc c.loop.bounds.items (pos 0 ∷ []) rest
    ∙ ap (λ (ys : List ℕ). c.loop.bounds.items ++ map f ys) (sym (drop_more us i 0 c.loop-test.true)) ∙ c.loop.invariant
