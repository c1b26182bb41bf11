use Rattle.std.proofs.Common.{◌≡◌, ◌≤◌, ◌<◌, ℕ, true, List, [], ◌∷◌, ◌++◌, length, map, refl, ap, sym, subst, ◌∙◌, arith}
use Rattle.std.proofs.lemmas.List.{map-append}
use Rattle.tetri_cluster.specs.Names.{differ, is_among, is_name}
use Rattle.tetri_cluster.specs.Sets.{AreSets}
use Rattle.tetri_trace.specs.declared.trace.Event.{Event}
use Rattle.tetri_trace.specs.Scenario.{Scenario, Submission, job_names, submission}
use Rattle.tetri_trace.specs.Sound.{IsSound, arrival_at}
use Rattle.tetri_make.specs.Generated.{arriving, draws_in, job_name, made_of, next, sets_with, state_at}
use Rattle.tetri_make.proofs.MadeLemmas.{grown, made_first, made_step, name_is_new, next_state}
use Rattle.tetri_make.proofs.making.draw_arrivals.Goals as goal

pub loop-slot-init : goal.loop-slot-init
unfolding made_of
loop-slot-init c = record {
  state = refl;
  sets = c.requires.sets;
  jobs = ap (map submission) c.requires.jobs;
  events = c.requires.events;
  made = made_first c.args.number;
}

pub push-requires-clause-new : goal.push-requires-clause-new
push-requires-clause-new c =
    let slot = c.loop-slot.slot in
    let early : slot < 32 = omega (arith, c.loop-slot-test.true, c.loop-slot.auto.slot-end) in
    ap (λ (name : List ℕ). is_among name (job_names (map submission c.loop-slot.jobs))) (ap (λ (j : Submission). j.name) c.in_ok-job.ensures.submission)
    ∙ ap (λ (js : List Submission). is_among (job_name slot) (job_names js)) c.loop-slot.invariant.jobs
    ∙ name_is_new (made_of c.args.number slot) slot c.loop-slot.invariant.made early

pub loop-slot-preserved : goal.loop-slot-preserved
loop-slot-preserved c =
    let n = c.args.number in
    let slot = c.loop-slot.slot in
    let early : slot < 32 = omega (arith, c.loop-slot-test.true, c.loop-slot.auto.slot-end) in
    let before = c.loop-slot.invariant in
    let s = made_of n slot in
    let d = c.draw_job-drawn.result in
    let drawn = c.draw_job-drawn.ensures in
    let is : d ≡ draws_in (state_at n slot) = drawn.value ∙ ap draws_in before.state in
    let more : c.job.new.sets ≡ sets_with s.sets d = c.in_ok-job.ensures.sets ∙ ap (λ (ss : List (List ℕ)). sets_with ss d) before.sets in
    let job : submission c.in_ok-job.field-0 ≡ arriving s.sets slot d = c.in_ok-job.ensures.submission ∙ ap (λ (ss : List (List ℕ)). arriving ss slot d) before.sets in
    let jobs : map submission c.push.new.self ≡ s.submissions ++ arriving s.sets slot d ∷ [] =
    ap (map submission) c.in_ok-push.ensures.ok ∙ map-append submission c.loop-slot.jobs (c.in_ok-job.field-0 ∷ [])
    ∙ ap (λ (js : List Submission). js ++ submission c.in_ok-job.field-0 ∷ []) before.jobs ∙ ap (λ (j : Submission). s.submissions ++ j ∷ []) job in
    let events : c.push-in-loop-slot.new.self.items ≡ s.events ++ arrival_at slot (length s.submissions) ∷ [] =
    c.in_ok-push-2.ensures.items ∙ ap (λ (es : List Event). es ++ arrival_at slot slot ∷ []) before.events ∙ ap (λ (k : ℕ). s.events ++ arrival_at slot k ∷ []) (sym before.made.count) in
    record {
      state = drawn.next ∙ ap (λ (x : ℕ). next (next (next (next (next x))))) before.state ∙ sym (next_state n slot);
      sets = more ∙ sym (ap (λ (t : Scenario). t.sets) (grown n slot d is));
      jobs = jobs ∙ sym (ap (λ (t : Scenario). t.submissions) (grown n slot d is));
      events = events ∙ sym (ap (λ (t : Scenario). t.events) (grown n slot d is));
      made = made_step n slot d is before.made early
          (record { some_nodes = drawn.nodes.0; few_nodes = drawn.nodes.1; some_slots = drawn.slots.0; few_slots = drawn.slots.1; small_worth = drawn.worth.1; small_late = drawn.late })
          (subst AreSets more c.in_ok-job.ensures.are_sets.0) (subst (λ (ss : List (List ℕ)). length ss ≤ 4096) more c.in_ok-job.ensures.are_sets.1)
          (subst (λ (name : List ℕ). is_name name ≡ true) (ap (λ (j : Submission). j.name) job) c.in_ok-job.ensures.name)
          (subst (λ (js : List Submission). differ (job_names js) ≡ true) jobs c.in_ok-push.ensures.differ);
    }

pub returns-clause-sets : goal.returns-clause-sets
returns-clause-sets c =
    let all : c.loop-slot.slot ≡ 32 = omega (arith, c.loop-slot-test.false, c.loop-slot.auto.slot-end) in
    c.loop-slot.invariant.sets ∙ ap (λ (k : ℕ). (made_of c.args.number k).sets) all

pub returns-clause-jobs : goal.returns-clause-jobs
returns-clause-jobs c =
    let all : c.loop-slot.slot ≡ 32 = omega (arith, c.loop-slot-test.false, c.loop-slot.auto.slot-end) in
    c.loop-slot.invariant.jobs ∙ ap (λ (k : ℕ). (made_of c.args.number k).submissions) all

pub returns-clause-events : goal.returns-clause-events
returns-clause-events c =
    let all : c.loop-slot.slot ≡ 32 = omega (arith, c.loop-slot-test.false, c.loop-slot.auto.slot-end) in
    c.loop-slot.invariant.events ∙ ap (λ (k : ℕ). (made_of c.args.number k).events) all

pub returns-clause-sound : goal.returns-clause-sound
returns-clause-sound c =
    let all : c.loop-slot.slot ≡ 32 = omega (arith, c.loop-slot-test.false, c.loop-slot.auto.slot-end) in
    subst (λ (k : ℕ). IsSound (made_of c.args.number k)) all c.loop-slot.invariant.made.sound
