use Rattle.std.proofs.Common.{◌≡◌, ℕ, ◌<◌, ◌++◌, ◌∷◌, [], length, drop, cond}
use Rattle.tetri_base.specs.Lists.{has, list_at}
use Rattle.tetri_space.proofs.finding.add_to_each.Given as goal

abbrev pub invariant-loop-place : goal.invariant-loop-place
invariant-loop-place l = record {
  count : length l.lists.items ≡ length l.fn.lists.items;
  added : (j : ℕ) → j < length l.fn.lists.items → list_at l.lists.items j ++ cond (has (drop l.place-index l.places) j) (l.number ∷ []) []
      ≡ list_at l.fn.lists.items j ++ cond (has l.places j) (l.number ∷ []) [];
}
