use Rattle.tetri_space.specs.Closed.{AreSoundClosures}
use Rattle.tetri_delay.proofs.rest.closures_with.Given as goal

abbrev pub invariant-loop-grant : goal.invariant-loop-grant
invariant-loop-grant l = AreSoundClosures l.inst.nodes l.closures.items
