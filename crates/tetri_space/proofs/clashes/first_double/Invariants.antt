use Rattle.std.proofs.Common.{take, All}
use Rattle.tetri_space.specs.Broken.{NamesSameLeaf}
use Rattle.tetri_space.proofs.clashes.first_double.Given as goal

abbrev pub invariant-loop-place : goal.invariant-loop-place
invariant-loop-place l = All (λ h. NamesSameLeaf l.grant h → ⊥) (take l.place l.earlier)
