use Rattle.std.proofs.Common.{◌∙◌, ap, refl, subst, sym, AllPairs}
use Rattle.tetri_base.specs.Order.{in_order}
use Rattle.tetri_space.specs.GrantOrder.{ComesBefore, comes_first}
use Rattle.tetri_space.specs.Lawful.{IsLawful}
use Rattle.tetri_space.specs.Space.{space}
use Rattle.tetri_space.specs.Trimmed.{IsThriftyForAll}
use Rattle.tetri_space.proofs.InstanceLaws.{lawful_in_order, lawful_trimmed, ordered_in_order, thrifty_in_order, thrifty_trimmed}
use Rattle.tetri_delay.proofs.delayed.tested.Goals as goal

pub returns-else-total-least-clause-lawful : goal.returns-else-total-least-clause-lawful
returns-else-total-least-clause-lawful c =
    let s = space c.args.inst.now in
    let is = c.in_ok-ordered-in-Ok.ensures ∙ ap (in_order comes_first) c.in_ok-trimmed-in-Ok.ensures in
    subst (IsLawful s) (sym is) (lawful_in_order s _ (lawful_trimmed s c.requires c.args.grants.now (c.in-Ok.ensures.ok.0 refl)))

pub returns-else-total-least-clause-thrifty : goal.returns-else-total-least-clause-thrifty
returns-else-total-least-clause-thrifty c =
    let s = space c.args.inst.now in
    let is = c.in_ok-ordered-in-Ok.ensures ∙ ap (in_order comes_first) c.in_ok-trimmed-in-Ok.ensures in
    subst (IsThriftyForAll s) (sym is) (thrifty_in_order s _ (thrifty_trimmed s c.requires c.args.grants.now))

pub returns-else-total-least-clause-ordered : goal.returns-else-total-least-clause-ordered
returns-else-total-least-clause-ordered c =
    let s = space c.args.inst.now in
    let is = c.in_ok-ordered-in-Ok.ensures ∙ ap (in_order comes_first) c.in_ok-trimmed-in-Ok.ensures in
    subst (AllPairs ComesBefore) (sym is) (ordered_in_order s _ (lawful_trimmed s c.requires c.args.grants.now (c.in-Ok.ensures.ok.0 refl)))
