use Rattle.std.proofs.Common.{take, All, Contains}
use Rattle.tetri_space.specs.Space.{set_of, space}
use Rattle.tetri_space.proofs.nodes.first_outside.Given as goal

abbrev pub invariant-loop-node : goal.invariant-loop-node
invariant-loop-node l = All (Contains (set_of (space l.inst) l.leaf)) (take l.node-index l.nodes)
