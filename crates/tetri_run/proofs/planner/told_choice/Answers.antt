use Rattle.std.proofs.Common.{◌≡◌, ◌∙◌, AllPairs, List, ap, map, subst, sym}
use Rattle.tetri_claims.specs.Certified.{IsCertified}
use Rattle.tetri_claims.specs.Good.{BoundsEveryLawful, IsHonest}
use Rattle.tetri_claims.specs.Planned.{Planned}
use Rattle.tetri_plan.specs.Plans.{IsPrintableTree}
use Rattle.tetri_space.specs.GrantOrder.{ComesBefore}
use Rattle.tetri_space.specs.Space.{space}
use Rattle.tetri_space.specs.Total.{total_in}
use Rattle.tetri_state.specs.After.{starting_pieces}
use Rattle.tetri_state.specs.Launch.{launched_in, start_of, worth_launched}
use Rattle.tetri_trace.specs.Scenario.{scenario}
use Rattle.tetri_run.proofs.planner.told_choice.Goals as goal

pub returns-clause-plan : goal.returns-clause-plan
returns-clause-plan g c =
    let s = space c.args.inst.now in
    let same = sym c.in_ok-told.ensures.plan in
    let grants = ap (λ (p : Planned). p.grants) same in
    record {
      honest = subst (IsHonest s (total_in s c.args.carry.now)) same c.in_ok-plan.ensures.good.honest;
      certified = subst (IsCertified s (scenario c.args.trace.now).header.budget) same c.in_ok-plan.ensures.certified;
      starts = c.in_ok-told.ensures.starts ∙ ap (map (start_of s)) grants;
      launched = c.in_ok-told.ensures.launched ∙ ap (launched_in s) grants;
    }

pub returns-clause-bounded : goal.returns-clause-bounded
returns-clause-bounded g c =
    subst (λ (p : Planned). BoundsEveryLawful (space c.args.inst.now) p.bound) (sym c.in_ok-told.ensures.plan) c.in_ok-plan.ensures.good.bounded

pub returns-clause-ordered : goal.returns-clause-ordered
returns-clause-ordered g c = subst (λ (p : Planned). AllPairs ComesBefore p.grants) (sym c.in_ok-told.ensures.plan) c.in_ok-plan.ensures.ordered

pub returns-clause-printable : goal.returns-clause-printable
returns-clause-printable g c = subst (λ (p : Planned). IsPrintableTree p.certificate) (sym c.in_ok-told.ensures.plan) c.in_ok-plan.ensures.printable

pub returns-clause-jobs : goal.returns-clause-jobs
returns-clause-jobs g c = c.in_ok-told.ensures.jobs ∙ ap (λ (p : Planned). launched_in (space c.args.inst.now) p.grants) (sym c.in_ok-told.ensures.plan)

pub returns-clause-pieces : goal.returns-clause-pieces
returns-clause-pieces g c =
    c.in_ok-told.ensures.pieces ∙ ap (λ (p : Planned). starting_pieces (scenario c.args.trace.now) (space c.args.inst.now) p.grants) (sym c.in_ok-told.ensures.plan)

pub returns-clause-worth : goal.returns-clause-worth
returns-clause-worth g c = c.in_ok-told.ensures.worth ∙ ap (λ (p : Planned). worth_launched (space c.args.inst.now) p.grants) (sym c.in_ok-told.ensures.plan)
