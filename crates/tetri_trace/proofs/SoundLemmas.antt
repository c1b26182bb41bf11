-- A header is a sound trace; a sound trace stays sound with one event more, with one job more, and with more sets; and a job that arrives does so at its slot.
use Rattle.std.proofs.Common.{◌≡◌, ℕ, ◌+◌, ◌<◌, ◌≤◌, true, List, [], ◌∷◌, ◌++◌, length, All, get_or, refl, ap, ◌∙◌, sym, subst, inl, inr, arith, length-append}
use Rattle.std.specs.Prelude.{Contains}
use Rattle.std.proofs.lemmas.Bool.{cases_lt}
use Rattle.std.proofs.lemmas.List.{get_or_append_left, get_or_default, get_or_push}
use Rattle.std.proofs.lemmas.List.Elements.{All-contains, All-push, All-weaker, Contains-append_left, Contains-push}
use Rattle.std.proofs.lemmas.List.Quantifiers.{all_pairs_push}
use Rattle.tetri_cluster.specs.Cluster.{names_of}
use Rattle.tetri_cluster.specs.declared.cluster.NodeText.{NodeText}
use Rattle.tetri_cluster.specs.Names.{differ, is_name}
use Rattle.tetri_cluster.specs.Sets.{AreSets, HaveNodesBelow}
use Rattle.tetri_space.specs.Closed.{AreSoundClosures}
use Rattle.tetri_space.specs.declared.closure.Closure.{Closure}
use Rattle.tetri_trace.specs.Draft.{with_sets, BringsNone, IsNextSlot}
use Rattle.tetri_trace.specs.Lines.{with_event, with_job}
use Rattle.tetri_trace.specs.Scenario.{Demand, strl, asks, Scenario, Submission, job_names, nothing_submitted, submission_of, without_events}
use Rattle.tetri_notice.specs.Headers.{IsSoundHeader}
use Rattle.tetri_trace.specs.Sound.{IsSound, IsSoundDemand, IsSoundSubmission, NamesKnown, ArrivesOnTime, BringsNew, arrival_at}
use Rattle.tetri_notice.specs.declared.header.Header.{Header}
use Rattle.tetri_trace.specs.declared.trace.Event.{Event}
use Rattle.tetri_trace.specs.declared.trace.Happening.{Happening}
use Rattle.tetri_trace.specs.declared.trace.Happening.TheVariants.{Arrive, Cancel, Drain, Undrain, Fail}

pub header_sound : (h : Header) (nodes : List NodeText) (closures : List Closure) → IsSoundHeader h → 1 ≤ length nodes → length nodes ≤ 4096 → All (λ name. is_name name ≡ true) (names_of nodes) → differ (names_of nodes) ≡ true → AreSoundClosures (length nodes) closures → IsSound (without_events h nodes closures)
header_sound h nodes closures sound some few named different closed = record {
  header = sound;
  some_nodes = some;
  few_nodes = few;
  node_names = named;
  nodes_differ = different;
  sets = record { ascending = λ k d lt. absurd (omega arith); different = λ i j d before lt. absurd (omega arith) };
  few_sets = omega arith;
  known_nodes = λ k d lt. absurd (omega arith);
  closures = closed;
  few_jobs = omega arith;
  jobs_differ = refl;
  jobs_ascend = λ i j d before lt. absurd (omega arith);
  jobs = λ k d lt. absurd (omega arith);
  events_ascend = λ i j d before lt. absurd (omega arith);
  in_run = λ k d lt. absurd (omega arith);
  known = λ k d lt. absurd (omega arith);
  arrivals = λ job lt. absurd (omega arith);
  fresh = λ i j d before lt. absurd (omega arith);
}

pub demand_kept : (sets more arrival : ℕ) → sets ≤ more → (d : Demand) → IsSoundDemand sets arrival d → IsSoundDemand more arrival d
demand_kept sets more arrival le (strl t) o = record { well_made = o.well_made; known_sets = λ k d lt. omega (arith, o.known_sets k d lt); starts = o.starts }
demand_kept sets more arrival le (asks a) o = record { sound = o.sound; known_sets = λ set is. omega (arith, o.known_sets set is) }

module _ (s t : Scenario) where
  pub known_kept : length s.submissions ≤ length t.submissions → length s.nodes ≡ length t.nodes → (what : Happening) → NamesKnown s what → NamesKnown t what
  known_kept more same (Arrive job) h = omega arith
  known_kept more same (Cancel job) h = omega arith
  known_kept more same (Drain node) h = omega arith
  known_kept more same (Undrain node) h = omega arith
  known_kept more same (Fail node) h = omega arith

  pub job_kept : s.header.until ≡ t.header.until → length s.sets ≤ length t.sets → (j : Submission) → IsSoundSubmission s j → IsSoundSubmission t j
  job_kept same more j o = record {
    named = o.named;
    in_run = omega (arith, o.in_run);
    not_too_early = o.not_too_early;
    not_too_late = o.not_too_late;
    demand = demand_kept (length s.sets) (length t.sets) j.arrival more j.demand o.demand;
  }

-- what brings no job may come after anything
none_is_new : (f what : Happening) → BringsNone what → BringsNew f what
none_is_new (Arrive job) (Arrive other) h = absurd h
none_is_new (Cancel job) (Arrive other) h = absurd h
none_is_new (Drain node) (Arrive other) h = tt
none_is_new (Undrain node) (Arrive other) h = tt
none_is_new (Fail node) (Arrive other) h = tt
none_is_new (Arrive job) (Cancel other) h = tt
none_is_new (Cancel job) (Cancel other) h = tt
none_is_new (Drain node) (Cancel other) h = tt
none_is_new (Undrain node) (Cancel other) h = tt
none_is_new (Fail node) (Cancel other) h = tt
none_is_new (Arrive job) (Drain other) h = tt
none_is_new (Cancel job) (Drain other) h = tt
none_is_new (Drain node) (Drain other) h = tt
none_is_new (Undrain node) (Drain other) h = tt
none_is_new (Fail node) (Drain other) h = tt
none_is_new (Arrive job) (Undrain other) h = tt
none_is_new (Cancel job) (Undrain other) h = tt
none_is_new (Drain node) (Undrain other) h = tt
none_is_new (Undrain node) (Undrain other) h = tt
none_is_new (Fail node) (Undrain other) h = tt
none_is_new (Arrive job) (Fail other) h = tt
none_is_new (Cancel job) (Fail other) h = tt
none_is_new (Drain node) (Fail other) h = tt
none_is_new (Undrain node) (Fail other) h = tt
none_is_new (Fail node) (Fail other) h = tt

-- a job with the next number is new
next_is_new : (s : Scenario) (f : Happening) → NamesKnown s f → BringsNew f (Arrive (length s.submissions))
next_is_new s (Arrive job) h = λ e. omega arith
next_is_new s (Cancel job) h = λ e. omega arith
next_is_new s (Drain node) h = tt
next_is_new s (Undrain node) h = tt
next_is_new s (Fail node) h = tt

pub with_event_sound : (s : Scenario) (at : ℕ) (what : Happening) → IsSound s → IsNextSlot s at → NamesKnown s what → BringsNone what → IsSound (with_event s at what)
with_event_sound s at what sound next known none = record {
  header = sound.header;
  some_nodes = sound.some_nodes;
  few_nodes = sound.few_nodes;
  node_names = sound.node_names;
  nodes_differ = sound.nodes_differ;
  sets = sound.sets;
  few_sets = sound.few_sets;
  known_nodes = sound.known_nodes;
  closures = sound.closures;
  few_jobs = sound.few_jobs;
  jobs_differ = sound.jobs_differ;
  jobs_ascend = sound.jobs_ascend;
  jobs = All-weaker (IsSoundSubmission s) (IsSoundSubmission t) (job_kept s t refl (omega arith)) s.submissions sound.jobs;
  events_ascend = all_pairs_push (λ e f. e.at ≤ f.at) s.events event sound.events_ascend next.not_before;
  in_run = All-push (λ e. e.at < s.header.until) s.events event sound.in_run next.in_run;
  known = All-push (λ e. NamesKnown t e.what) s.events event (All-weaker (λ e. NamesKnown s e.what) (λ e. NamesKnown t e.what) (λ e. known_kept s t (omega arith) refl e.what) s.events sound.known) (known_kept s t (omega arith) refl what known);
  arrivals = λ job lt. Contains-append_left s.events (event ∷ []) (arrival_at (submission_of s job).arrival job) (sound.arrivals job lt);
  fresh = all_pairs_push (λ e f. BringsNew e.what f.what) s.events event sound.fresh (λ k d lt. none_is_new (get_or s.events k d).what what none);
}
  where
    event : Event
    event = record { at = at; what = what }

    t : Scenario
    t = with_event s at what

pub with_sets_sound : (s : Scenario) (sets : List (List ℕ)) → IsSound s → AreSets sets → length sets ≤ 4096 → HaveNodesBelow (length s.nodes) sets → length s.sets ≤ length sets → IsSound (with_sets s sets)
with_sets_sound s sets sound are few within more = record {
  header = sound.header;
  some_nodes = sound.some_nodes;
  few_nodes = sound.few_nodes;
  node_names = sound.node_names;
  nodes_differ = sound.nodes_differ;
  sets = are;
  few_sets = few;
  known_nodes = within;
  closures = sound.closures;
  few_jobs = sound.few_jobs;
  jobs_differ = sound.jobs_differ;
  jobs_ascend = sound.jobs_ascend;
  jobs = All-weaker (IsSoundSubmission s) (IsSoundSubmission (with_sets s sets)) (job_kept s (with_sets s sets) refl more) s.submissions sound.jobs;
  events_ascend = sound.events_ascend;
  in_run = sound.in_run;
  known = All-weaker (λ e. NamesKnown s e.what) (λ e. NamesKnown (with_sets s sets) e.what) (λ e. known_kept s (with_sets s sets) (omega arith) refl e.what) s.events sound.known;
  arrivals = sound.arrivals;
  fresh = sound.fresh;
}

module _ (s : Scenario) (job : Submission) (sound : IsSound s) (next : IsNextSlot s job.arrival) (good : IsSoundSubmission s job) (few : length s.submissions < 100000)
    (different : differ (job_names (s.submissions ++ job ∷ [])) ≡ true) where
  abbrev event : Event
  event = arrival_at job.arrival (length s.submissions)

  abbrev after : Scenario
  after = with_job s job

  more : length s.submissions + 1 ≡ length (s.submissions ++ job ∷ [])
  more = omega (arith, length-append s.submissions (job ∷ []))

  -- no job comes after it
  jobs_before : (k : ℕ) (d : Submission) → k < length s.submissions → (get_or s.submissions k d).arrival ≤ job.arrival
  jobs_before k d lt =
      let here : (submission_of s k).arrival ≤ job.arrival = All-contains (λ (e : Event). e.at ≤ job.arrival) s.events (arrival_at (submission_of s k).arrival k) next.not_before (sound.arrivals k lt) in
      omega (arith, here, ap (λ (j : Submission). j.arrival) (get_or_default s.submissions k d nothing_submitted lt))

  same_job : (k : ℕ) → k < length s.submissions → submission_of s k ≡ submission_of after k
  same_job k lt = sym (get_or_append_left s.submissions (job ∷ []) nothing_submitted k lt)

  last_job : (k : ℕ) → length s.submissions ≡ k → job ≡ submission_of after k
  last_job k e = sym (get_or_push s.submissions job nothing_submitted k e)

  arrivals_more : (k : ℕ) → k < length (s.submissions ++ job ∷ []) → Contains (s.events ++ event ∷ []) (arrival_at (submission_of after k).arrival k)
  arrivals_more k lt = elim (cases_lt k (length s.submissions)) [
    | inl before ↦ subst (λ (j : Submission). Contains (s.events ++ event ∷ []) (arrival_at j.arrival k)) (same_job k before) (Contains-append_left s.events (event ∷ []) (arrival_at (submission_of s k).arrival k) (sound.arrivals k before))
    | inr not_before ↦
        let e : length s.submissions ≡ k = omega (arith, more) in
        subst (λ (j : Submission). Contains (s.events ++ event ∷ []) (arrival_at j.arrival k)) (last_job k e)
        (subst (λ n. Contains (s.events ++ event ∷ []) (arrival_at job.arrival n)) e (Contains-push s.events event))
  ]

  pub with_job_sound : IsSound (with_job s job)
  with_job_sound = record {
    header = sound.header;
    some_nodes = sound.some_nodes;
    few_nodes = sound.few_nodes;
    node_names = sound.node_names;
    nodes_differ = sound.nodes_differ;
    sets = sound.sets;
    few_sets = sound.few_sets;
    known_nodes = sound.known_nodes;
    closures = sound.closures;
    few_jobs = omega (arith, more);
    jobs_differ = different;
    jobs_ascend = all_pairs_push (λ i j. i.arrival ≤ j.arrival) s.submissions job sound.jobs_ascend jobs_before;
    jobs = All-push (IsSoundSubmission after) s.submissions job (All-weaker (IsSoundSubmission s) (IsSoundSubmission after) (job_kept s after refl (omega arith)) s.submissions sound.jobs) (job_kept s after refl (omega arith) job good);
    events_ascend = all_pairs_push (λ e f. e.at ≤ f.at) s.events event sound.events_ascend next.not_before;
    in_run = All-push (λ e. e.at < s.header.until) s.events event sound.in_run next.in_run;
    known = All-push (λ e. NamesKnown after e.what) s.events event (All-weaker (λ e. NamesKnown s e.what) (λ e. NamesKnown after e.what) (λ e. known_kept s after (omega (arith, more)) refl e.what) s.events sound.known) (omega (arith, more));
    arrivals = arrivals_more;
    fresh = all_pairs_push (λ e f. BringsNew e.what f.what) s.events event sound.fresh (λ k d lt. next_is_new s (get_or s.events k d).what (sound.known k d lt));
  }

-- what a job that arrives asks for is sound, and it does so at its slot
module _ (s : Scenario) (sound : IsSound s) where
  pub submission_sound : (job : ℕ) → job < length s.submissions → IsSoundSubmission s (submission_of s job)
  submission_sound job lt = sound.jobs job nothing_submitted lt

  two_arrivals : (i j job : ℕ) (d : Event) → i < j → j < length s.events → (get_or s.events i d).what ≡ Arrive job → (get_or s.events j d).what ≡ Arrive job → ⊥
  two_arrivals i j job d lt within first second =
      let new : BringsNew (Arrive job) (get_or s.events j d).what = subst (λ f. BringsNew f (get_or s.events j d).what) first (sound.fresh i j d lt within) in
      subst (BringsNew (Arrive job)) second new refl

  in_time : (k job : ℕ) (d : Event) → k < length s.events → (get_or s.events k d).what ≡ Arrive job → (submission_of s job).arrival ≡ (get_or s.events k d).at
  in_time k job d lt is =
      let known : job < length s.submissions = subst (NamesKnown s) is (sound.known k d lt) in
      let event = arrival_at (submission_of s job).arrival job in
      let found = sound.arrivals job known in
      let here : get_or s.events found.0 d ≡ event = get_or_default s.events found.0 d event found.1 ∙ found.2 in
      elim (cases_lt k found.0) [
        | inl before ↦ absurd (two_arrivals k found.0 job d before found.1 is (ap (λ (e : Event). e.what) here))
        | inr not_before ↦ elim (cases_lt found.0 k) [
          | inl after ↦ absurd (two_arrivals found.0 k job d after lt (ap (λ (e : Event). e.what) here) is)
          | inr same ↦ let e : found.0 ≡ k = omega arith in sym (ap (λ (f : Event). f.at) here) ∙ ap (λ i. (get_or s.events i d).at) e
        ]
      ]

  on_time : (k : ℕ) (d : Event) → k < length s.events → (what : Happening) → (get_or s.events k d).what ≡ what → ArrivesOnTime s (get_or s.events k d).at what
  on_time k d lt (Arrive job) is = in_time k job d lt is
  on_time k d lt (Cancel job) is = tt
  on_time k d lt (Drain node) is = tt
  on_time k d lt (Undrain node) is = tt
  on_time k d lt (Fail node) is = tt

  pub arrive_on_time : All (λ e. ArrivesOnTime s e.at e.what) s.events
  arrive_on_time k d lt = on_time k d lt (get_or s.events k d).what refl
