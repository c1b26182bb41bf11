use Rattle.std.proofs.Common.{◌≡◌, ◌∙◌, List, ap, subst}
use Rattle.std.specs.Prelude.{IfSome, Option}
use Rattle.tetri_base.specs.Order.{in_order}
use Rattle.tetri_strl.specs.declared.grants.Grant.{Grant}
use Rattle.tetri_space.specs.GrantOrder.{comes_first}
use Rattle.tetri_space.specs.Space.{space}
use Rattle.tetri_space.specs.Total.{total_in}
use Rattle.tetri_space.proofs.InstanceLaws.{total_in_order}
use Rattle.tetri_judge.proofs.unordered.total_by.Goals as goal

pub returns-in-Some : goal.returns-in-Some
returns-in-Some c =
    let s = space c.args.inst.now in
    let a = c.args.grants.now in
    let copy = subst (λ (o : Option (List Grant)). IfSome o (λ gs. gs ≡ in_order comes_first a)) c.in-Some.is c.requires.copy in
    c.total.ensures ∙ ap (total_in s) copy ∙ total_in_order s a
