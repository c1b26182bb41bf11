use Rattle.std.proofs.Common.{◌≡◌, ◌+◌, ◌≤◌, drop, map}
use Rattle.std.specs.Prelude.{count_by}
use Rattle.tetri_space.specs.Space.{bid, space}
use Rattle.tetri_chart.specs.Marks.{is_left}
use Rattle.tetri_chart.proofs.marks.count_left.Given as goal

abbrev pub invariant-loop-offer : goal.invariant-loop-offer
invariant-loop-offer l = record {
  counted : l.count + count_by (is_left l.launched) (drop l.offer-index (map bid l.offer-items)) ≡ count_by (is_left l.launched) (space l.inst).bids;
  within : l.count ≤ l.offer-index;
}
