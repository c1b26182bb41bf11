use Rattle.std.proofs.Common.{take, All}
use Rattle.tetri_space.specs.Free.{IsFreeThroughout}
use Rattle.tetri_space.specs.Space.{space}
use Rattle.tetri_space.proofs.nodes.first_not_free.Given as goal

abbrev pub invariant-loop-node : goal.invariant-loop-node
invariant-loop-node l = All (IsFreeThroughout (space l.inst) l.leaf) (take l.node-index l.nodes)
