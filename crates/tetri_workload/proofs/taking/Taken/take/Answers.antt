use Rattle.std.proofs.Common.{◌≡◌, ◌++◌, ◌∷◌, [], map, rules, subst}
use Rattle.tetri_trace.specs.Scenario.{job_names, submission}
use Rattle.tetri_workload.specs.Notes.{AreNoted}
use Rattle.tetri_workload.proofs.NoteLemmas.{noted-taken}
use Rattle.tetri_workload.proofs.taking.Taken.take.Goals as goal

pub returns-clause-noted : goal.returns-clause-noted
returns-clause-noted c =
    let t = c.args.self.now in
    let submit = c.args.job.now.account.submit in
    let old = map submission t.jobs in
    let submits = t.submits.items in
    let noted = c.add.ensures.noted submits (job_names old) c.requires.noted in
    let pushed : c.push.new.self.items ≡ submits ++ submit ∷ [] = search (rules, c.in_ok-push.ensures.items) in
    noted-taken c.add.new.self submits c.push.new.self.items old (map submission c.add_job.new.jobs) c.args.name.now c.args.placing.now submit c.in_ok-add_job.ensures pushed
    (subst (λ name. AreNoted c.add.new.self (submits ++ submit ∷ []) (job_names old ++ name ∷ [])) c.bytes.ensures.value noted)
