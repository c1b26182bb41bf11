use Rattle.std.proofs.Common.{take}
use Rattle.tetri_space.specs.Lawful.{IsLawful}
use Rattle.tetri_space.specs.Space.{space}
use Rattle.tetri_space.proofs.rules.lawful.Given as goal

abbrev pub invariant-loop-place : goal.invariant-loop-place
invariant-loop-place l = IsLawful (space l.inst) (take l.place l.grants)
