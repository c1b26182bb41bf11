use Rattle.tetri_space.specs.Broken.{ClashesAt}
use Rattle.tetri_space.specs.Space.{space}
use Rattle.tetri_space.proofs.ClashLemmas.{Found}
use Rattle.tetri_space.proofs.clashes.first_clash.Given as goal

abbrev pub invariant-loop-place : goal.invariant-loop-place
invariant-loop-place l = Found (ClashesAt (space l.inst) l.leaf l.nodes) l.earlier l.place l.found
