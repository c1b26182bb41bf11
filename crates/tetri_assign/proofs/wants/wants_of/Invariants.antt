use Rattle.std.proofs.Common.{◌≡◌, ◌++◌, drop}
use Rattle.tetri_assign.specs.steps.Taking.{wants_from}
use Rattle.tetri_space.specs.Space.{space}
use Rattle.tetri_assign.proofs.wants.wants_of.Given as goal

abbrev pub invariant-loop-count : goal.invariant-loop-count
invariant-loop-count l =
    l.wants.items ++ wants_from (space l.inst).bids (drop l.count-index l.counts) ≡ wants_from (space l.inst).bids l.counts
