use Rattle.std.proofs.Common.{◌≡◌, ◌≤◌, ◌+◌, ◌*◌, ◌^◌, ◌++◌, drop, length}
use Rattle.tetri_strl.specs.Aligned.{EachLeafOf}
use Rattle.tetri_strl.specs.Tree.{leaves_of, trees}
use Rattle.tetri_strl.specs.WellMade.{AreSound, peaks}
use Rattle.tetri_strl.specs.Worth.{added_of, greatest_of, worths_by}
use Rattle.tetri_space.specs.Partitions.{parts_of, partitions}
use Rattle.tetri_space.specs.Space.{space}
use Rattle.tetri_compile.specs.steps.Walked.{IsReady}
use Rattle.tetri_prices.specs.Gain.{gains_of, least_costs}
use Rattle.tetri_prices.specs.Priced.{cost_for, gain_for, listed}
use Rattle.tetri_prices.specs.Prices.{rows_of}
use Rattle.tetri_prices.specs.steps.Values.{costs, gains, tops}
use Rattle.tetri_prices.proofs.walking.+value.Given as goal

abbrev pub invariant-values_of-loop-kid : goal.invariant-values_of-loop-kid
invariant-values_of-loop-kid l = record {
  sound : AreSound (trees (drop l.kid-index l.kids));
  ready : EachLeafOf (IsReady (space l.fn.inst) (parts_of l.fn.parts)) (trees (drop l.kid-index l.kids));
  few : l.fn.times * greatest_of (peaks (trees (drop l.kid-index l.kids))) ≤ 2 ^ 80;
  few_leaves : length (leaves_of (trees (drop l.kid-index l.kids))) ≤ 128;
  all_tops : tops l.values.items ++ worths_by (λ x. x.v) (trees (drop l.kid-index l.kids)) ≡ worths_by (λ x. x.v) (trees l.fn.kids);
  all_gains : gains l.values.items ++ gains_of (cost_for (space l.fn.inst) (partitions (space l.fn.inst)) (listed l.fn.inst.now (rows_of l.fn.prices)))
      (gain_for (space l.fn.inst) (partitions (space l.fn.inst)) (listed l.fn.inst.now (rows_of l.fn.prices))) (trees (drop l.kid-index l.kids)) l.fn.times
      ≡ gains_of (cost_for (space l.fn.inst) (partitions (space l.fn.inst)) (listed l.fn.inst.now (rows_of l.fn.prices)))
      (gain_for (space l.fn.inst) (partitions (space l.fn.inst)) (listed l.fn.inst.now (rows_of l.fn.prices))) (trees l.fn.kids) l.fn.times;
  all_costs : costs l.values.items ++ least_costs (cost_for (space l.fn.inst) (partitions (space l.fn.inst)) (listed l.fn.inst.now (rows_of l.fn.prices))) (trees (drop l.kid-index l.kids))
      ≡ least_costs (cost_for (space l.fn.inst) (partitions (space l.fn.inst)) (listed l.fn.inst.now (rows_of l.fn.prices))) (trees l.fn.kids);
  small : added_of (costs l.values.items) + length (leaves_of (trees (drop l.kid-index l.kids))) * 2 ^ 82 ≤ length (leaves_of (trees l.fn.kids)) * 2 ^ 82;
}
