-- The trace that is made so far is sound, and one job more keeps it so.
use Rattle.std.proofs.Common.{◌≡◌, ℕ, zero, suc, ◌+◌, ◌*◌, pos, negsuc, ◌-ℤ◌, ◌≤ℤ◌, add-one, drop, ◌<◌, ◌≤◌, Bool, true, false, List, [], ◌∷◌, ◌++◌, length, map, All, refl, ap, sym, subst, ◌∙◌, arith, bytes_eq, decimal, length-append}
use Rattle.std.specs.List.{range_with_len}
use Rattle.std.proofs.lemmas.Fmt.{decimal_injective}
use Rattle.std.proofs.lemmas.List.{map-append}
use Rattle.std.proofs.lemmas.Int.{ints}
use Rattle.std.proofs.lemmas.List.Elements.{All-nil, All-push, All-weaker}
use Rattle.std.proofs.lemmas.List.FromFn.{get_or-map-range_with_len, length-map-range_with_len, map-range_with_len_more}
use Rattle.std.proofs.lemmas.Slice.Eq.{bytes_eq-Decides}
use Rattle.tetri_base.specs.Lists.{Each}
use Rattle.tetri_base.proofs.ListLaws.{none_from, range_from}
use Rattle.tetri_cluster.specs.declared.cluster.NodeText.{NodeText}
use Rattle.tetri_cluster.specs.Names.{differ, is_among, is_name}
use Rattle.tetri_cluster.specs.Sets.{AreSets, HaveNodesBelow, with_set}
use Rattle.tetri_space.specs.Closed.{IsSoundClosure}
use Rattle.tetri_space.specs.declared.closure.Closure.{Closure}
use Rattle.tetri_trace.specs.declared.trace.Event.{Event}
use Rattle.tetri_notice.specs.declared.header.Header.{Header}
use Rattle.tetri_trace.specs.Scenario.{Scenario, Submission, job_names}
use Rattle.tetri_trace.specs.Sound.{IsSound, IsSoundSubmission, arrival_at}
use Rattle.tetri_trace.proofs.TraceLaws.{header_sound, with_job_sound, with_sets_sound}
use Rattle.tetri_make.specs.declared.drawing.Drawn.{Drawn}
use Rattle.tetri_make.specs.Generated.{EVEN, EVERY, GPU, ODD, arriving, draws_in, generated, job_name, made_of, next, node_at, sets_with, spaced, state_at, with_arriving}
use Rattle.tetri_make.proofs.NodeLemmas.{nodes_differ, nodes_named}
use Rattle.tetri_make.proofs.RequestLemmas.{IsDrawn, request_fits, sets_more, sets_within}

abbrev pub header : Header
header = record { window = 4; budget = 16; until = 32; unit = 1 }

-- The trace is sound, has the jobs of so many slots and no later event, and is over the eight nodes.
pub record IsMade (s : Scenario) (slots : ℕ) : Type 0 where
  pub sound : IsSound s
  pub header_is : s.header ≡ header
  pub nodes : s.nodes ≡ map node_at (range_with_len 0 8)
  pub count : length s.submissions ≡ slots
  pub names : job_names s.submissions ≡ map job_name (range_with_len 0 slots)
  pub events : All (λ e. e.at < slots) s.events

pub made_first : (n : ℕ) → IsMade (made_of n 0) 0
unfolding made_of
made_first n = record {
  sound = header_sound header (map node_at (range_with_len 0 8)) [] (record { some_slots = omega arith; few_slots = omega arith; some_budget = omega arith; small_budget = omega arith; some_cycles = omega arith; few_cycles = omega arith; some_unit = omega arith; small_unit = omega arith })
      (omega arith) (omega arith) nodes_named nodes_differ (record { few = omega arith; each = All-nil (IsSoundClosure 8) });
  header_is = refl;
  nodes = refl;
  count = refl;
  names = refl;
  events = All-nil (λ (e : Event). e.at < 0);
}

pub made_next : (n slot : ℕ) → made_of n (slot + 1) ≡ with_arriving (made_of n slot) slot (draws_in (state_at n slot))
unfolding made_of
made_next n slot = ap (made_of n) (add-one slot)

-- the names of two slots differ
other_name : (i j : ℕ) → i < j → j < 32 → bytes_eq (job_name j) (job_name i) ≡ false
other_name i j before early = by_test (bytes_eq (job_name j) (job_name i)) refl
  where
    by_test : (b : Bool) → bytes_eq (job_name j) (job_name i) ≡ b → bytes_eq (job_name j) (job_name i) ≡ false
    by_test false e = e
    by_test true e =
        let same : job_name j ≡ job_name i = (bytes_eq-Decides _ _).0 e in
        let same_digits : decimal j ≡ decimal i = ap (drop 1) same in
        absurd (omega (arith, before, decimal_injective j i (omega (arith, early)) (omega (arith, early, before)) same_digits))

each_named : (P : List ℕ → Type 0) (slots : List ℕ) → Each (λ i. P (job_name i)) slots → Each P (map job_name slots)
each_named P [] h = tt
each_named P (i ∷ slots) h = (h.0, each_named P slots h.1)

-- the next job has a new name
pub name_is_new : (s : Scenario) (slot : ℕ) → IsMade s slot → slot < 32 → is_among (job_name slot) (job_names s.submissions) ≡ false
name_is_new s slot made early =
    ap (is_among (job_name slot)) made.names
    ∙ none_from (bytes_eq (job_name slot)) (map job_name (range_with_len 0 slot)) (each_named (λ name. bytes_eq (job_name slot) name ≡ false) (range_with_len 0 slot)
    (range_from (λ i. bytes_eq (job_name slot) (job_name i) ≡ false) 0 slot (λ i from before. other_name i slot (omega (arith, before)) early)))

spaced_within : (first step count bound : ℕ) → ((i : ℕ) → i < count → first + i * step < bound) → All (λ n. n < bound) (spaced first step count)
spaced_within first step count bound h k d lt =
    let within : k < count = omega (arith, lt, length-map-range_with_len (λ i. first + i * step) 0 count) in
    subst (λ n. n < bound) (sym (get_or-map-range_with_len (λ i. first + i * step) 0 count k k d within (omega arith))) (h k within)

module _ (sets : List (List ℕ)) (before : HaveNodesBelow 8 sets) where
  two_within : (first other : List ℕ) → All (λ n. n < 8) first → All (λ n. n < 8) other → HaveNodesBelow 8 (with_set (with_set sets first) other)
  two_within first other h k = sets_within (with_set sets first) other 8 k (sets_within sets first 8 h before)

  within_eight : (d : Drawn) → HaveNodesBelow 8 (sets_with sets d)
  within_eight d = by_shape d.shape
    where
      by_shape : (shape : ℕ) → HaveNodesBelow 8 (sets_with sets (record d { shape = shape }))
      by_shape zero = two_within GPU EVERY (spaced_within 0 1 4 8 (λ i lt. omega arith)) (spaced_within 0 1 8 8 (λ i lt. omega arith))
      by_shape (suc zero) = two_within EVEN ODD (spaced_within 0 2 4 8 (λ i lt. omega arith)) (spaced_within 1 2 4 8 (λ i lt. omega arith))
      by_shape (suc (suc shape)) = sets_within sets EVERY 8 (spaced_within 0 1 8 8 (λ i lt. omega arith)) before

more_with : (sets : List (List ℕ)) (d : Drawn) → length sets ≤ length (sets_with sets d)
more_with sets d = by_shape d.shape
  where
    two_more : (one other : List ℕ) → length sets ≤ length (with_set (with_set sets one) other)
    two_more one other = omega (arith, sets_more sets one, sets_more (with_set sets one) other)

    by_shape : (shape : ℕ) → length sets ≤ length (sets_with sets (record d { shape = shape }))
    by_shape zero = two_more GPU EVERY
    by_shape (suc zero) = two_more EVEN ODD
    by_shape (suc (suc shape)) = sets_more sets EVERY

late_fits : (late : ℕ) → late < 3 → (negsuc 9999 ≤ℤ (pos late -ℤ pos 1)) × ((pos late -ℤ pos 1) ≤ℤ pos 10000)
late_fits zero lt = (omega (arith, ints), omega (arith, ints))
late_fits (suc zero) lt = (omega (arith, ints), omega (arith, ints))
late_fits (suc (suc zero)) lt = (omega (arith, ints), omega (arith, ints))
late_fits (suc (suc (suc late))) lt = absurd (omega arith)

module _ (s : Scenario) (slot : ℕ) (d : Drawn) (made : IsMade s slot) (early : slot < 32) (drawn : IsDrawn d)
    (are : AreSets (sets_with s.sets d)) (few : length (sets_with s.sets d) ≤ 4096) (named : is_name (job_name slot) ≡ true)
    (different : differ (job_names (s.submissions ++ arriving s.sets slot d ∷ [])) ≡ true) where
  abbrev job : Submission
  job = arriving s.sets slot d

  abbrev t : Scenario
  t = record s { sets = sets_with s.sets d }

  until_is : s.header.until ≡ 32
  until_is = ap (λ (h : Header). h.until) made.header_is

  within : HaveNodesBelow (length s.nodes) (sets_with s.sets d)
  within = subst (λ (ns : List NodeText). HaveNodesBelow (length ns) (sets_with s.sets d)) (sym made.nodes)
      (within_eight s.sets (subst (λ (ns : List NodeText). HaveNodesBelow (length ns) s.sets) made.nodes made.sound.known_nodes) d)

  more_sets_sound : IsSound t
  more_sets_sound = with_sets_sound s (sets_with s.sets d) made.sound are few within (more_with s.sets d)

  good : IsSoundSubmission t job
  good = record {
    named = named;
    in_run = omega (arith, until_is, early);
    not_too_early = (late_fits d.late drawn.small_late).0;
    not_too_late = (late_fits d.late drawn.small_late).1;
    demand = request_fits s.sets slot early d drawn;
  }

  pub made_more : IsMade (with_arriving s slot d) (slot + 1)
  made_more = record {
    sound = with_job_sound t job more_sets_sound
        (record { in_run = omega (arith, until_is, early); not_before = All-weaker (λ (e : Event). e.at < slot) (λ (e : Event). e.at ≤ slot) (λ e h. omega (arith, h)) s.events made.events })
        good (omega (arith, made.count, early)) different;
    header_is = made.header_is;
    nodes = made.nodes;
    count = length-append s.submissions (job ∷ []) ∙ ap (λ n. n + 1) made.count;
    names = map-append (λ (j : Submission). j.name) s.submissions (job ∷ []) ∙ ap (λ (ns : List (List ℕ)). ns ++ job_name slot ∷ []) made.names ∙ sym (map-range_with_len_more job_name 0 slot slot (omega arith));
    events = All-push (λ (e : Event). e.at < slot + 1) s.events (arrival_at slot (length s.submissions)) (All-weaker (λ (e : Event). e.at < slot) (λ (e : Event). e.at < slot + 1) (λ e h. omega (arith, h)) s.events made.events) (omega arith);
  }

-- the state in which the draws for the next slot begin
pub next_state : (n slot : ℕ) → state_at n (slot + 1) ≡ next (next (next (next (next (state_at n slot)))))
next_state n slot = ap (state_at n) (add-one slot)

-- one slot more, in which this is drawn
module _ (n slot : ℕ) (d : Drawn) (is : d ≡ draws_in (state_at n slot)) where
  pub grown : made_of n (slot + 1) ≡ with_arriving (made_of n slot) slot d
  grown = made_next n slot ∙ ap (with_arriving (made_of n slot) slot) (sym is)

  pub made_step : IsMade (made_of n slot) slot → slot < 32 → IsDrawn d → AreSets (sets_with (made_of n slot).sets d) → length (sets_with (made_of n slot).sets d) ≤ 4096 → is_name (job_name slot) ≡ true →
      differ (job_names ((made_of n slot).submissions ++ arriving (made_of n slot).sets slot d ∷ [])) ≡ true → IsMade (made_of n (slot + 1)) (slot + 1)
  made_step made early drawn are few named different = subst (λ (s : Scenario). IsMade s (slot + 1)) (sym grown) (made_more (made_of n slot) slot d made early drawn are few named different)

abbrev pub scenario_of : Header → List NodeText → List (List ℕ) → List Closure → List Submission → List Event → Scenario
scenario_of header nodes sets closures submissions events = record { header = header; nodes = nodes; sets = sets; closures = closures; submissions = submissions; events = events }

-- the header, the nodes and the closures stay as they are at first
header_made : (n slot : ℕ) → (made_of n slot).header ≡ header
unfolding made_of
header_made n zero = refl
header_made n (suc slot) = header_made n slot

nodes_made : (n slot : ℕ) → (made_of n slot).nodes ≡ map node_at (range_with_len 0 8)
unfolding made_of
nodes_made n zero = refl
nodes_made n (suc slot) = nodes_made n slot

closures_made : (n slot : ℕ) → (made_of n slot).closures ≡ []
unfolding made_of
closures_made n zero = refl
closures_made n (suc slot) = closures_made n slot

-- the whole trace, by its parts
module _ (n : ℕ) (nodes : List NodeText) (sets : List (List ℕ)) (closures : List Closure) (submissions : List Submission) (events : List Event)
    (nodes_are : nodes ≡ map node_at (range_with_len 0 8)) (sets_are : sets ≡ (generated n).sets) (closures_are : closures ≡ []) (submissions_are : submissions ≡ (generated n).submissions) (events_are : events ≡ (generated n).events) where
  pub whole_is : scenario_of header nodes sets closures submissions events ≡ generated n
  whole_is =
      let s = generated n in
      ap (λ (h : Header). scenario_of h nodes sets closures submissions events) (sym (header_made n 32))
      ∙ ap (λ (ns : List NodeText). scenario_of s.header ns sets closures submissions events) (nodes_are ∙ sym (nodes_made n 32))
      ∙ ap (λ (ss : List (List ℕ)). scenario_of s.header s.nodes ss closures submissions events) sets_are
      ∙ ap (λ (cs : List Closure). scenario_of s.header s.nodes s.sets cs submissions events) (closures_are ∙ sym (closures_made n 32))
      ∙ ap (λ (js : List Submission). scenario_of s.header s.nodes s.sets s.closures js events) submissions_are
      ∙ ap (λ (es : List Event). scenario_of s.header s.nodes s.sets s.closures s.submissions es) events_are

  pub whole_sound : IsSound (generated n) → IsSound (scenario_of header nodes sets closures submissions events)
  whole_sound sound = subst IsSound (sym whole_is) sound
