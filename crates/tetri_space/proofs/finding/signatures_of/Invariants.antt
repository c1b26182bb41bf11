use Rattle.std.proofs.Common.{◌≡◌, ℕ, ◌<◌, ◌&&◌, false, length, slice_index_or}
use Rattle.std.specs.List.{filter, range_with_len}
use Rattle.tetri_base.specs.Lists.{has, list_at}
use Rattle.tetri_space.specs.Partitions.{set_at}
use Rattle.tetri_space.specs.Space.{space}
use Rattle.tetri_space.proofs.finding.signatures_of.Given as goal

abbrev pub invariant-loop-set : goal.invariant-loop-set
invariant-loop-set l = record {
  count : length l.signatures.items ≡ l.inst.nodes;
  sets : (n : ℕ) → n < l.inst.nodes → list_at l.signatures.items n
      ≡ filter (λ k. slice_index_or l.used k false && has (set_at (space l.inst) k) n) (range_with_len 0 l.set);
}
