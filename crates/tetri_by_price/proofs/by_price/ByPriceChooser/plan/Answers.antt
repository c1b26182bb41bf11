use Rattle.tetri_advice.proofs.AdviceLaws.{given_lawful}
use Rattle.std.proofs.Common.{All, subst, sym}
use Rattle.tetri_space.specs.Lawful.{IsLawful}
use Rattle.tetri_space.specs.Space.{space}
use Rattle.tetri_by_price.proofs.by_price.ByPriceChooser.plan.Goals as goal

pub add_priced-requires-clause-given : goal.add_priced-requires-clause-given
add_priced-requires-clause-given g c = given_lawful _ _ _ _ _ c.in_ok-given.ensures.asked

pub choose-requires-clause-given : goal.choose-requires-clause-given
choose-requires-clause-given g c =
    subst (All (IsLawful (space c.args.inst.now))) (sym c.deref.ensures.value) c.in_ok-add_priced.ensures
