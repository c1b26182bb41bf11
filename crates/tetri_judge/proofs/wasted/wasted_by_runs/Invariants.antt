use Rattle.std.proofs.Common.{◌≡◌, ◌≤◌, drop, take, map, length}
use Rattle.tetri_judge.specs.Wasted.{first_wasted}
use Rattle.tetri_space.specs.Space.{bid, space}
use Rattle.tetri_judge.proofs.WastedLemmas.{ComeBefore}
use Rattle.tetri_judge.proofs.wasted.wasted_by_runs.Given as goal

abbrev pub invariant-loop-offer : goal.invariant-loop-offer
invariant-loop-offer l = record {
  within : l.seen ≤ length l.grants;
  rest : l.rest ≡ drop l.seen l.grants;
  before : ComeBefore (take l.seen l.grants) (drop l.offer-index (map bid l.offer-items));
  so_far : first_wasted (drop l.offer-index (map bid l.offer-items)) l.grants ≡ first_wasted (space l.inst).bids l.grants;
}
