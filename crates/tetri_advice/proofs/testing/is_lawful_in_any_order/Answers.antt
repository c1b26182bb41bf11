use Rattle.std.proofs.Common.{rules, sym, subst}
use Rattle.std.specs.Prelude.{◌↔◌, IsTrue}
use Rattle.tetri_space.specs.Lawful.{IsLawful}
use Rattle.tetri_space.specs.Space.{space}
use Rattle.tetri_space.proofs.InstanceLaws.{lawful_in_order}
use Rattle.tetri_advice.proofs.OrderLemmas.{lawful_out_of_order}
use Rattle.tetri_advice.proofs.testing.is_lawful_in_any_order.Goals as goal

pub returns-in-Ok : goal.returns-in-Ok
returns-in-Ok c =
    let s = space c.args.inst.now in
    let a = c.args.a.now in
    let tells : IsTrue c.is_ok.result ↔ IsLawful s c.in-Ok.ordered = search rules in (
      λ yes. lawful_out_of_order s a (subst (IsLawful s) c.in-Ok.ensures (tells.0 yes)),
      λ lawful. tells.1 (subst (IsLawful s) (sym c.in-Ok.ensures) (lawful_in_order s a lawful)),
    )
