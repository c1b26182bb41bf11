use Rattle.std.proofs.Common.{arith}
use Rattle.std.proofs.lemmas.Bool.{ltb-true, lt-ltb}
use Rattle.tetri_space.proofs.ClashLemmas.{common_slot}
use Rattle.tetri_space.proofs.clashes.overlap.Goals as goal

pub returns-then-leaf-other : goal.returns-then-leaf-other
returns-then-leaf-other c = (
  λ after. common_slot c.args.leaf.now c.args.other.now c.requires.good c.requires.other_good c.if-leaf-other.true (ltb-true _ _ after),
  λ common. lt-ltb _ _ (omega (arith, common.1.begun, common.1.not_over, common.2.begun, common.2.not_over)),
)
