use Rattle.std.proofs.Common.{◌≡◌, ◌++◌, drop, map, Vec, ℕ}
use Rattle.std.specs.Global.{Global}
use Rattle.std.specs.List.Sorted.{IsNonDecreasingBy}
use Rattle.tetri_strl.specs.declared.grants.Grant.{Grant}
use Rattle.tetri_judge.specs.Wasted.{idle_of}
use Rattle.tetri_space.specs.Space.{bid, space}
use Rattle.tetri_judge.proofs.unordered.idle_by_offer.Given as goal

abbrev pub invariant-loop-offer : goal.invariant-loop-offer
invariant-loop-offer l = record {
  ascending : IsNonDecreasingBy (λ (g : Grant). g.job) l.rest;
  so_far : map (λ (ns : Vec ℕ Global). ns.items) l.idle.items ++ map (idle_of l.rest) (drop l.offer-index (map bid l.offer-items)) ≡ map (idle_of l.grants) (space l.inst).bids;
}
