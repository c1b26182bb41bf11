use Rattle.std.proofs.Common.{◌≡◌, ◌++◌, List, [], drop, length, map}
use Rattle.tetri_advice.specs.Fit.{Placement}
use Rattle.tetri_greedy.specs.Held.{TellsOf}
use Rattle.tetri_space.specs.Space.{bid, space}
use Rattle.tetri_policy.specs.Policies.{backfilled}
use Rattle.tetri_policy.proofs.deciding.backfilled.Given as goal

abbrev pub invariant-loop-place : goal.invariant-loop-place
invariant-loop-place l =
    let s = space l.inst in
    record {
      as_many : length l.held ≡ s.nodes;
      so_far :
          (before : List Placement) × TellsOf s before l.held
          × (l.grants.items ++ backfilled s before (map bid (drop l.place l.offer-items)) ≡ backfilled s [] s.bids);
    }
