use Rattle.std.proofs.Common.{sym, subst}
use Rattle.tetri_cert.specs.declared.plan_mark.PlanMark.{PlanMark}
use Rattle.tetri_claims.specs.Certified.{IsCertified}
use Rattle.tetri_claims.specs.Good.{IsGood}
use Rattle.tetri_plan.specs.Plans.{planned_of}
use Rattle.tetri_space.specs.Space.{space}
use Rattle.tetri_space.specs.Total.{total_in}
use Rattle.tetri_delay.proofs.StandingLemmas.{certified_standing, good_standing, standing}
use Rattle.tetri_delay.proofs.certified.with_grants.Goals as goal

pub returns-clause-good : goal.returns-clause-good
returns-clause-good c =
    let s = space c.args.inst.now in
    let p = planned_of c.args.plan in
    subst (λ (m : PlanMark). IsGood s (total_in s c.args.grants) (standing p c.args.grants c.total-worth.result m)) (sym c.mark_for-mark.ensures)
    (good_standing p c.args.grants c.total-worth.result s c.requires.lawful c.requires.thrifty c.total-worth.ensures c.requires.good)

pub returns-clause-certified : goal.returns-clause-certified
returns-clause-certified c =
    let s = space c.args.inst.now in
    let p = planned_of c.args.plan in
    subst (λ (m : PlanMark). IsCertified s c.args.budget (standing p c.args.grants c.total-worth.result m)) (sym c.mark_for-mark.ensures)
    (certified_standing p c.args.grants c.total-worth.result s c.args.budget (sym c.if-not-may_stand.ensures) c.requires.certified)
