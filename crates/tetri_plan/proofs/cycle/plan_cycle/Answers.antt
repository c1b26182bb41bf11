use Rattle.std.proofs.Common.{◌≤◌, ◌∙◌, List, All, subst, sym, ap, arith}
use Rattle.std.proofs.lemmas.List.Elements.{All-contains}
use Rattle.tetri_strl.specs.declared.grants.Grant.{Grant}
use Rattle.tetri_space.specs.Lawful.{IsLawful}
use Rattle.tetri_space.specs.Space.{space}
use Rattle.tetri_space.specs.Total.{total_in}
use Rattle.tetri_advice.specs.Sitting.{seats}
use Rattle.tetri_advice.proofs.AdviceLaws.{creeds_asked, creeds_taught, given_lawful, heard_each, heard_given, nobody_gives}
use Rattle.tetri_plan.specs.Chosen.{kept}
use Rattle.tetri_plan.proofs.KeptLemmas.{carried_worth, given_bounds}
use Rattle.tetri_plan.proofs.cycle.plan_cycle.Goals as goal

pub choose-requires-clause-given : goal.choose-requires-clause-given
choose-requires-clause-given g c = subst (All (IsLawful (space c.args.inst.now))) (sym c.deref.ensures.value) (given_lawful _ _ _ _ _ c.in_ok-given.ensures.asked)

pub returns-in_err-plan-clause-creeds : goal.returns-in_err-plan-clause-creeds
returns-in_err-plan-clause-creeds g c = creeds_asked _ _ _ _ _ c.in_ok-given.ensures.asked

pub returns-clause-creeds : goal.returns-clause-creeds
returns-clause-creeds g c = creeds_taught _ _ c.teach.ensures.taught ∙ creeds_asked _ _ _ _ _ c.in_ok-given.ensures.asked

pub returns-clause-heard : goal.returns-clause-heard
returns-clause-heard g c =
    let s = space c.args.inst.now in
    let sat = seats g.A.Advisor.says g.A.Advisor.misses g.A.Advisor.creed c.args.panel.now in
    let heard = c.in_ok-given.field-0.heard.items in
    let given = c.in_ok-given.field-0.given.items in
    let carry = c.args.carry.now in
    let p = c.in_ok-plan.plan in
    let low = c.in_ok-plan.ensures.low ∙ ap (λ (gs : List (List Grant)). total_in s (kept s carry gs)) c.deref.ensures.value in
    let at_least = c.in_ok-plan.ensures.at_least in
    heard_each s (λ x. total_in s x ≤ p.value) sat heard given (heard_given s sat heard given _ c.in_ok-given.ensures.asked)
    (λ x at. let le = All-contains (λ y. total_in s y ≤ total_in s (kept s carry given)) given x (given_bounds s c.requires.sound carry given) at in omega (arith, low, at_least, le))

pub returns-clause-alone : goal.returns-clause-alone
returns-clause-alone g c =
    let s = space c.args.inst.now in
    let carry = c.args.carry.now in
    λ none. c.in_ok-plan.ensures.low
    ∙ ap (λ (gs : List (List Grant)). total_in s (kept s carry gs)) (c.deref.ensures.value ∙ nobody_gives s _ _ _ _ c.in_ok-given.ensures.asked none)
    ∙ carried_worth s c.requires.sound carry
