use Rattle.std.proofs.Common.{inr, refl, rules, subst}
use Rattle.tetri_claims.specs.Certified.{IsBoundOf}
use Rattle.tetri_judge.specs.PlanOf.{planned_as}
use Rattle.tetri_judge.specs.Seen.{IsMarkedBeside}
use Rattle.tetri_judge.proofs.SeenLemmas.{bound_fails, passes_all, rightly_marked}
use Rattle.tetri_space.specs.Space.{space}
use Rattle.tetri_judge.proofs.judging.test_certificate.Goals as goal

pub returns-in-Err : goal.returns-in-Err
returns-in-Err c = λ certificate told.
    bound_fails (space c.args.inst.now) c.args.carry c.args.budget (planned_as c.args.plan c.args.grants.now certificate) c.in-Err.verdict (c.in-Err.ensures certificate told)
    (c.requires.granted certificate)

pub returns-then-found-plan : goal.returns-then-found-plan
returns-then-found-plan c = λ certificate told.
    let answer = c.in-Ok.ensures certificate told in
    let g = c.requires.granted certificate in
    inr (record { fails = (refl, answer.1, c.if-found-plan.true); passes = (g.0, g.1, g.2, g.3, record { kind = answer.0; bound = c.in-Ok.found; gives = answer.1 }) })

pub returns-then-not-is_rightly_marked : goal.returns-then-not-is_rightly_marked
returns-then-not-is_rightly_marked c = λ certificate told.
    let s = space c.args.inst.now in
    let answer = c.in-Ok.ensures certificate told in
    let g = c.requires.granted certificate in
    let not : IsMarkedBeside c.args.budget c.args.plan c.args.seen.now → ⊥ = search rules in
    inr (record {
      fails = λ is. not ((rightly_marked s c.args.budget c.args.plan c.args.grants.now certificate c.args.seen.now told answer.0).1 is);
      passes = (g.0, g.1, g.2, g.3, record { kind = answer.0; bound = c.in-Ok.found; gives = answer.1 }, subst (IsBoundOf s certificate) c.if-found-plan.false answer.1);
    })

pub returns : goal.returns
returns c = λ certificate told.
    let s = space c.args.inst.now in
    let answer = c.in-Ok.ensures certificate told in
    let g = c.requires.granted certificate in
    let marked : IsMarkedBeside c.args.budget c.args.plan c.args.seen.now = search rules in
    passes_all s c.args.carry c.args.budget (planned_as c.args.plan c.args.grants.now certificate)
    (g.0, g.1, g.2, g.3, record { kind = answer.0; bound = c.in-Ok.found; gives = answer.1 }, subst (IsBoundOf s certificate) c.if-found-plan.false answer.1)
    ((rightly_marked s c.args.budget c.args.plan c.args.grants.now certificate c.args.seen.now told answer.0).0 marked)
