use Rattle.std.proofs.Common.{◌≡◌, ◌||◌, ℕ, false, drop, get_or}
use Rattle.tetri_advice.specs.Fit.{is_held}
use Rattle.tetri_greedy.specs.Fitted.{placements_of}
use Rattle.tetri_greedy.proofs.fitted.taken_by.Given as goal

abbrev pub invariant-loop-place : goal.invariant-loop-place
invariant-loop-place l =
    (n : ℕ) → (get_or l.taken.items n false || is_held (placements_of (drop l.place l.leaves) (drop l.place l.grants)) l.leaf n) ≡ is_held (placements_of l.leaves l.grants) l.leaf n
