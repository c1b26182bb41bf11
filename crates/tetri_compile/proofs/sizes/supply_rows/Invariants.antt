use Rattle.std.proofs.Common.{◌≡◌, ◌*◌, ◌≤◌, length}
use Rattle.std.specs.List.{range_with_len}
use Rattle.tetri_base.specs.Lists.{count, sum_of}
use Rattle.tetri_space.specs.Partitions.{parts_found, parts_of}
use Rattle.tetri_compile.specs.Sizes.{is_used, leaves_in}
use Rattle.tetri_compile.proofs.sizes.supply_rows.Given as goal

abbrev pub invariant-loop-place : goal.invariant-loop-place
invariant-loop-place l = record {
  so_far : l.rows ≡ sum_of (λ t. count (λ p. is_used (parts_found (parts_of l.parts)) (leaves_in (parts_of l.parts).bids) p t)
      (range_with_len 0 (length (parts_of l.parts).groups))) (range_with_len l.inst.now l.place);
  few : l.rows ≤ 4096 * l.place;
}
