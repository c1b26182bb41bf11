use Rattle.std.proofs.Common.{◌∙◌, ap, arith}
use Rattle.tetri_base.specs.Order.{in_order}
use Rattle.tetri_plan.specs.Plans.{planned_of}
use Rattle.tetri_space.specs.GrantOrder.{comes_first}
use Rattle.tetri_space.specs.Space.{space}
use Rattle.tetri_sooner.proofs.SoonerLemmas.{good_with_grants, grants_ordered}
use Rattle.tetri_sooner.proofs.sooner.with_grants.Goals as goal

pub returns-clause-good : goal.returns-clause-good
returns-clause-good c =
    λ low good. good_with_grants (space c.args.inst.now) c.requires.sound c.args.moved.now c.in_ok-grants.grants c.requires.lawful
    (c.in_ok-grants.ensures ∙ ap (in_order comes_first) c.in_ok-trimmed.ensures) low (planned_of c.args.plan) good
    c.total-worth.result c.total-worth.ensures (omega (arith, c.if-worth-plan.false)) c.mark_at-mark.result c.mark_at-mark.ensures.optimal c.mark_at-mark.ensures.before

pub returns-clause-ordered : goal.returns-clause-ordered
returns-clause-ordered c =
    grants_ordered (space c.args.inst.now) c.requires.sound c.args.moved.now c.in_ok-grants.grants c.requires.lawful
    (c.in_ok-grants.ensures ∙ ap (in_order comes_first) c.in_ok-trimmed.ensures)
