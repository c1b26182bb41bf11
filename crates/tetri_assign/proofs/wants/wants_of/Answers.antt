use Rattle.std.proofs.Common.{◌∙◌, sym, arith}
use Rattle.tetri_space.specs.Space.{space}
use Rattle.tetri_space.proofs.InstanceLaws.{offered_leaf}
use Rattle.tetri_assign.proofs.wants.wants_of.Goals as goal

pub overflow_add-leaf : goal.overflow_add-leaf
overflow_add-leaf c =
    let s = space c.args.inst.now in
    let good = (offered_leaf s _ _ c.in-Some.leaf c.requires (sym c.leaf_of.ensures ∙ c.in-Some.is)).0 in
    omega (arith, good.within, good.few_slots)
