use Rattle.std.proofs.Common.{◌≡◌, ◌++◌, drop, map}
use Rattle.tetri_workload.specs.Kinds.{members_from}
use Rattle.tetri_workload.proofs.kinds.members_with.Given as goal

abbrev pub invariant-loop-number : goal.invariant-loop-number
invariant-loop-number l =
    let tags = map (λ x. x.now) l.tags in
    l.set ++ members_from l.number (drop l.number l.nodes) tags ≡ members_from 0 l.nodes tags
