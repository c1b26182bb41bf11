use Rattle.std.proofs.Common.{◌≡◌, map, take, All}
use Rattle.tetri_space.specs.Space.{Bid, space}
use Rattle.tetri_greedy.specs.Order.{IsRanked, job_at}
use Rattle.tetri_greedy.proofs.order.rank_jobs.Given as goal

abbrev pub invariant-loop-place : goal.invariant-loop-place
invariant-loop-place l = record {
  each : All (IsRanked l.creed (space l.inst)) l.made.items;
  jobs : (d : Bid) → map (job_at (space l.inst).bids d) l.made.items ≡ take l.place (space l.inst).bids;
}
