use Rattle.std.proofs.Common.{◌≡◌, rules, subst, sym}
use Rattle.tetri_workload.specs.Reading.{AreHandled, AreWanted}
use Rattle.tetri_workload.specs.Waiting.{HasSeconds}
use Rattle.tetri_workload.proofs.intake.Intake.add_known.Goals as goal

pub returns-in_ok-hold-clause-wanted : goal.returns-in_ok-hold-clause-wanted
returns-in_ok-hold-clause-wanted c = λ wanted.
    let same : c.passes.new.self ≡ c.args.self.now = c.in_ok-passes.ensures.stays (search (rules, c.if-not-branch.true)) in
    c.in_ok-hold.ensures.wanted (subst (λ j. AreWanted c.args.settings.now j.waiting.held.items) (sym same) wanted)

pub returns-in_ok-hold-clause-seconds : goal.returns-in_ok-hold-clause-seconds
returns-in_ok-hold-clause-seconds c = λ seconds.
    let same : c.passes.new.self ≡ c.args.self.now = c.in_ok-passes.ensures.stays (search (rules, c.if-not-branch.true)) in
    c.in_ok-hold.ensures.seconds (subst (λ j. HasSeconds j.waiting) (sym same) seconds)

pub returns-in_ok-hold-clause-handled : goal.returns-in_ok-hold-clause-handled
returns-in_ok-hold-clause-handled c = λ o all seconds wanted given.
    let s = c.args.settings.now in
    let i = c.args.self.now in
    let same : c.passes.new.self ≡ i = c.in_ok-passes.ensures.stays (search (rules, c.if-not-branch.true)) in
    c.in_ok-hold.ensures.handled s.origin o all (subst (λ j. AreWanted s j.waiting.held.items) (sym same) wanted)
    (subst (λ j. AreHandled s o all j.waiting.held.items j) (sym same) given)
