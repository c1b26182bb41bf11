use Rattle.std.proofs.Common.{◌≤◌, ◌∙◌, ap, arith, cond, refl}
use Rattle.std.proofs.lemmas.Bool.Decides.{nat_tests}
use Rattle.tetri_workload.proofs.IntakeLemmas.{took-step}
use Rattle.tetri_workload.proofs.intake.Intake.take.Goals as goal

pub returns-clause-handled : goal.returns-clause-handled
returns-clause-handled c = λ o all rest given.
    let i = c.args.self.now in
    let job = c.args.job.now in
    let behind : i.last ≤ job.account.submit = grind (arith, nat_tests, c.if-submit-self.false) in
    took-step c.args.settings.now o all rest i _ job given.0 c.args.placing.now c.requires.good given.1 c.requires.place c.in_ok-add_placed.ensures.tally behind
    (c.last_behind-self.ensures ∙ ap (λ full. cond full i.last job.account.submit) c.is_full.ensures) refl refl
