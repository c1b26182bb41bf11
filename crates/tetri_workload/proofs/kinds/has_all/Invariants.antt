use Rattle.std.proofs.Common.{◌≡◌, drop, map}
use Rattle.tetri_workload.specs.Kinds.{has_all}
use Rattle.tetri_workload.proofs.kinds.has_all.Given as goal

abbrev pub invariant-loop-tag : goal.invariant-loop-tag
invariant-loop-tag l = has_all l.node (map (λ x. x.now) l.tags) ≡ has_all l.node (map (λ x. x.now) (drop l.tag-index l.tags))
