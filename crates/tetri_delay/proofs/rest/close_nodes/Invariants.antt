use Rattle.tetri_space.specs.Closed.{AreSoundClosures}
use Rattle.tetri_delay.proofs.rest.close_nodes.Given as goal

abbrev pub invariant-loop-node : goal.invariant-loop-node
invariant-loop-node l = AreSoundClosures l.inst.nodes l.closures.items
