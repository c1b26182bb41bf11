use Rattle.std.proofs.Common.{take}
use Rattle.tetri_space.specs.Space.{space}
use Rattle.tetri_space.proofs.FrontLemmas.{IsFront}
use Rattle.tetri_space.proofs.front.lawful_front.Given as goal

abbrev pub invariant-loop-place : goal.invariant-loop-place
invariant-loop-place l = IsFront (space l.inst) (take l.place l.grants) l.masks
