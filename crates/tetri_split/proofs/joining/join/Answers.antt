use Rattle.std.proofs.Common.{◌∙◌, List, AllPairs, ap, subst, sym}
use Rattle.std.proofs.lemmas.List.{take_all}
use Rattle.tetri_base.specs.Order.{in_order}
use Rattle.tetri_strl.specs.declared.grants.Grant.{Grant}
use Rattle.tetri_space.specs.GrantOrder.{ComesBefore, comes_first}
use Rattle.tetri_space.specs.Lawful.{IsLawful}
use Rattle.tetri_space.specs.Total.{total_in}
use Rattle.tetri_space.specs.Trimmed.{IsThriftyForAll}
use Rattle.tetri_split.specs.Parts.{in_a_row}
use Rattle.tetri_split.proofs.PartLemmas.{joined_lawful, joined_ordered, joined_thrifty, joined_total}
use Rattle.tetri_split.proofs.joining.join.Goals as goal

pub returns-clause-lawful : goal.returns-clause-lawful
returns-clause-lawful c s parts sound are lawful =
    let is = c.in_ok-ordered.ensures ∙ ap (in_order comes_first) (c.loop-list.invariant ∙ ap in_a_row (take_all c.loop-list.list-index c.args.lists.now c.loop-list-test.false)) in (
      subst (IsLawful s) (sym is) (joined_lawful s sound parts are c.args.lists.now lawful),
      subst (λ (a : List Grant). AllPairs ComesBefore a) (sym is) (joined_ordered s sound parts are c.args.lists.now lawful),
    )

pub returns-clause-total : goal.returns-clause-total
returns-clause-total c s parts sound are lawful =
    let is = c.in_ok-ordered.ensures ∙ ap (in_order comes_first) (c.loop-list.invariant ∙ ap in_a_row (take_all c.loop-list.list-index c.args.lists.now c.loop-list-test.false)) in
    ap (total_in s) is ∙ joined_total s sound parts are c.args.lists.now lawful

pub returns-clause-thrifty : goal.returns-clause-thrifty
returns-clause-thrifty c s parts sound are lawful thrifty =
    let is = c.in_ok-ordered.ensures ∙ ap (in_order comes_first) (c.loop-list.invariant ∙ ap in_a_row (take_all c.loop-list.list-index c.args.lists.now c.loop-list-test.false)) in
    subst (IsThriftyForAll s) (sym is) (joined_thrifty s sound parts are c.args.lists.now lawful thrifty)
