use Rattle.std.proofs.Common.{◌≡◌, ◌∙◌, ◌<◌, ◌++◌, ◌∷◌, [], cond, sym, ap, map, length, subst, arith}
use Rattle.std.proofs.lemmas.List.{length-map, map-append}
use Rattle.tetri_cluster.specs.Names.{differ}
use Rattle.tetri_trace.specs.Draft.{so_far}
use Rattle.tetri_trace.specs.Scenario.{submission, job_names}
use Rattle.tetri_trace.specs.Sound.{IsSound}
use Rattle.tetri_trace.specs.declared.trace.Happening.TheVariants.{Arrive}
use Rattle.tetri_trace.proofs.SoundLemmas.{with_job_sound}
use Rattle.tetri_trace.proofs.happen.with_job.Goals as goal

pub returns-clause-sound : goal.returns-clause-sound
returns-clause-sound c =
    let s = so_far c.args.draft.now in
    let job = submission c.args.job in
    let items = c.args.draft.now.jobs in
    let added : c.add.new.self ≡ items ++ c.args.job ∷ [] = c.in_ok-add.ensures.ok ∙ ap (λ b. cond b (items ++ c.args.job ∷ []) items) c.if-not-branch.false in
    let jobs : map submission c.add.new.self ≡ s.submissions ++ job ∷ [] = ap (map submission) added ∙ map-append submission items (c.args.job ∷ []) in
    let count : c.len-2.result ≡ length s.submissions = omega (arith, c.len-2.ensures.value, length-map items submission) in
    let few : length s.submissions < 100000 = omega (arith, c.if-len-ge-JOBS_MOST.false, c.len.ensures.value, length-map items submission) in
    let events = c.in_ok-push.ensures.items ∙ ap (λ n. s.events ++ (record { at = job.arrival; what = Arrive n }) ∷ []) count in
    let different = ap (λ js. differ (job_names js)) (sym jobs) ∙ c.in_ok-add.ensures.differ in
    subst IsSound (sym (ap (λ js. record s { submissions = js; events = c.push.new.self.items }) jobs ∙ ap (λ es. record s { submissions = s.submissions ++ job ∷ []; events = es }) events))
    (with_job_sound s job c.requires.sound c.requires.next c.requires.job few different)
