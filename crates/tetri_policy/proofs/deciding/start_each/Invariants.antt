use Rattle.std.proofs.Common.{◌≡◌, ◌++◌, List, drop, length, map}
use Rattle.tetri_advice.specs.Fit.{Placement}
use Rattle.tetri_greedy.specs.Held.{TellsOf}
use Rattle.tetri_space.specs.Space.{bid, space}
use Rattle.tetri_policy.specs.Policies.{each_start}
use Rattle.tetri_policy.proofs.deciding.start_each.Given as goal

abbrev pub invariant-loop-offer : goal.invariant-loop-offer
invariant-loop-offer l =
    let s = space l.inst in
    record {
      as_many : length l.held ≡ s.nodes;
      so_far :
          (first : List Placement) → TellsOf s first l.fn.held
          → (before : List Placement) × TellsOf s before l.held
          × (l.grants.items ++ each_start s before (map bid (drop l.offer-index l.offers)) ≡ l.fn.grants.items ++ each_start s first (map bid l.offers));
    }
