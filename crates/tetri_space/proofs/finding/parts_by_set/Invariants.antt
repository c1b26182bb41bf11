use Rattle.std.proofs.Common.{◌≡◌, ℕ, ◌<◌, length}
use Rattle.std.specs.List.{filter, range_with_len}
use Rattle.tetri_base.specs.Lists.{has, list_at}
use Rattle.tetri_space.proofs.finding.parts_by_set.Given as goal

abbrev pub invariant-loop-part : goal.invariant-loop-part
invariant-loop-part l = record {
  count : length l.inside.items ≡ l.sets;
  parts : (k : ℕ) → k < l.sets → list_at l.inside.items k ≡ filter (λ p. has (list_at l.signatures p) k) (range_with_len 0 l.part);
}
