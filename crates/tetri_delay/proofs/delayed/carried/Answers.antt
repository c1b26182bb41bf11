use Rattle.std.proofs.Common.{◌∙◌, ap, arith, subst, sym, AllPairs}
use Rattle.tetri_base.specs.Order.{in_order}
use Rattle.tetri_space.specs.GrantOrder.{ComesBefore, comes_first}
use Rattle.tetri_space.specs.Lawful.{IsLawful}
use Rattle.tetri_space.specs.Space.{space}
use Rattle.tetri_space.specs.Total.{total_in}
use Rattle.tetri_space.specs.Trimmed.{IsThriftyForAll}
use Rattle.tetri_space.proofs.InstanceLaws.{lawful_in_order, ordered_in_order, thrifty_in_order, total_in_order}
use Rattle.tetri_delay.proofs.delayed.carried.Goals as goal

pub returns-clause-lawful : goal.returns-clause-lawful
returns-clause-lawful c =
    let s = space c.args.inst.now in
    let is = c.in_ok-ordered.ensures ∙ ap (in_order comes_first) c.in_ok-copied.ensures in
    subst (IsLawful s) (sym is) (lawful_in_order s c.args.carry.now c.requires.lawful)

pub returns-clause-thrifty : goal.returns-clause-thrifty
returns-clause-thrifty c =
    let s = space c.args.inst.now in
    let is = c.in_ok-ordered.ensures ∙ ap (in_order comes_first) c.in_ok-copied.ensures in
    subst (IsThriftyForAll s) (sym is) (thrifty_in_order s c.args.carry.now c.requires.thrifty)

pub returns-clause-ordered : goal.returns-clause-ordered
returns-clause-ordered c =
    let s = space c.args.inst.now in
    let is = c.in_ok-ordered.ensures ∙ ap (in_order comes_first) c.in_ok-copied.ensures in
    subst (AllPairs ComesBefore) (sym is) (ordered_in_order s c.args.carry.now c.requires.lawful)

pub returns-clause-worth : goal.returns-clause-worth
returns-clause-worth c =
    let s = space c.args.inst.now in
    let is = c.in_ok-ordered.ensures ∙ ap (in_order comes_first) c.in_ok-copied.ensures in
    let same = ap (total_in s) is ∙ total_in_order s c.args.carry.now in
    omega (arith, same)
