use Rattle.std.proofs.Common.{◌≡◌, ◌++◌, drop, length, map, List}
use Rattle.tetri_advice.specs.Creeds.{greedy_list, served}
use Rattle.tetri_advice.specs.Fit.{Placement}
use Rattle.tetri_space.specs.Space.{Bid, space}
use Rattle.tetri_greedy.specs.Held.{TellsOf}
use Rattle.tetri_greedy.specs.Order.{job_at}
use Rattle.tetri_greedy.proofs.serving.greedy_list.Given as goal

abbrev pub invariant-loop-job : goal.invariant-loop-job
invariant-loop-job l = record {
  as_many : length l.held ≡ (space l.inst).nodes;
  so_far :
      (before : List Placement) × TellsOf (space l.inst) before l.held
      × ((d : Bid) → l.grants.items ++ served (space l.inst) before (map (job_at (space l.inst).bids d) (drop l.job-index l.job-items)) ≡ greedy_list l.fn.creed (space l.inst));
}
