use Rattle.std.proofs.Common.{◌≡◌, ◌+◌, drop, length, map}
use Rattle.tetri_base.specs.Lists.{sum_of}
use Rattle.tetri_space.specs.Partitions.{parts_found, parts_of}
use Rattle.tetri_space.specs.Space.{bid}
use Rattle.tetri_compile.specs.Sizes.{row_total, width_by}
use Rattle.tetri_compile.proofs.sizes.size.Given as goal

abbrev pub invariant-loop-offer : goal.invariant-loop-offer
invariant-loop-offer l = record {
  columns : l.columns + sum_of (λ b. 1 + width_by (λ k. length (parts_found (parts_of l.parts) k)) b.expr) (drop l.offer-index (map bid l.offer-items))
      ≡ sum_of (λ b. 1 + width_by (λ k. length (parts_found (parts_of l.parts) k)) b.expr) (parts_of l.parts).bids;
  rows : l.rows + sum_of (λ b. row_total b.expr) (drop l.offer-index (map bid l.offer-items)) ≡ sum_of (λ b. row_total b.expr) (parts_of l.parts).bids;
}
