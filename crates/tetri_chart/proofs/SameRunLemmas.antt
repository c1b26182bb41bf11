-- The pieces that are kept for a picture are those of the states.
use Rattle.std.proofs.Common.{◌≡◌, ℕ, ◌+◌, ◌<◌, ◌==◌, ◌||◌, ◌&&◌, Bool, true, false, cond, List, [], ◌∷◌, ◌++◌, Option, Some, None, length, get_or, map, filter, not, set, Contains, refl, sym, ap, ◌∙◌, subst, arith, suc, zero}
use Rattle.std.proofs.lemmas.Bool.Decides.{nat_tests}
use Rattle.std.proofs.lemmas.List.{get_or_default, map-append}
use Rattle.std.proofs.lemmas.List.Folds.{list_any-append}
use Rattle.tetri_base.specs.Lists.{Each, has}
use Rattle.tetri_report.specs.Block.{Block}
use Rattle.tetri_state.proofs.StateLaws.{each_from, filter_both, told_runs}
use Rattle.tetri_state.specs.After.{new_pieces}
use Rattle.tetri_state.specs.Begin.{Turn, begin, but_of, cancel, events_at, fail, fail_on, happen, happen_all, has_ended, holder_in, is_over, occurring, prolonged, put_number, running_on, runs, staying as state_staying, turn, unturned, without}
use Rattle.tetri_state.specs.Planning.{instance_of}
use Rattle.tetri_state.specs.Snapshot.{Snapshot}
use Rattle.tetri_state.specs.declared.happened.PieceId.{PieceId}
use Rattle.tetri_state.specs.declared.pieces.Piece.{Piece}
use Rattle.tetri_trace.specs.Scenario.{Scenario}
use Rattle.tetri_trace.specs.declared.trace.Event.{Event}
use Rattle.tetri_trace.specs.declared.trace.Happening.{Happening}
use Rattle.tetri_trace.specs.declared.trace.Happening.TheVariants.{Arrive, Cancel, Drain, Undrain, Fail}
use Rattle.tetri_chart.specs.Pieces.{fate_of, running, runs_on, staying}
use Rattle.tetri_cycles.specs.Observed.{next}
use Rattle.tetri_chart.specs.SameRuns.{AreSameRuns, as_run}
use Rattle.tetri_svg.specs.declared.fate.Fate.TheVariants.{Ended, Cancelled, Failed, RunsOn}

-- Of a job, what runs and what is told of it.
module _ (job : ℕ) where
  abbrev is_told : Turn → Bool
  is_told v = has v.failed job || has v.cancelled job

  abbrev Agrees : Turn → Type 0
  Agrees v = runs v.running job ≡ not (is_told v)

  runs_but : (other : ℕ) (b : Bool) → (other == job) ≡ b → (ids : List PieceId) → runs (but_of other ids) job ≡ (runs ids job && not b)
  runs_but other b is [] = refl
  runs_but other b is (a ∷ ids) = by_tests (a.job == job) (a.job == other) refl refl (runs_but other b is ids)
    where
      rest : List PieceId
      rest = but_of other ids

      known : Bool → Type 0
      known c = b ≡ c

      by_tests : (s u : Bool) → (a.job == job) ≡ s → (a.job == other) ≡ u → runs rest job ≡ (runs ids job && not b) →
          runs (cond (not u) (a ∷ rest) rest) job ≡ ((a.job == job || runs ids job) && not b)
      by_tests true true is_job is_other later =
          let gone : known true = let same : (other == job) ≡ true = grind (arith, nat_tests) in sym is ∙ same in
          later ∙ ap (λ c. runs ids job && not c) gone ∙ none (runs ids job) ∙ sym (ap (λ c. (a.job == job || runs ids job) && not c) gone ∙ none (a.job == job || runs ids job))
        where
          none : (c : Bool) → (c && not true) ≡ false
          none true = refl
          none false = refl
      by_tests true false is_job is_other later =
          let stays : known false = let differ : (other == job) ≡ false = grind (arith, nat_tests) in sym is ∙ differ in
          ap (λ c. c || runs rest job) is_job ∙ sym (ap (λ c. (c || runs ids job) && not b) is_job ∙ ap (λ c. true && not c) stays)
      by_tests false true is_job is_other later = later ∙ sym (ap (λ c. (c || runs ids job) && not b) is_job)
      by_tests false false is_job is_other later = ap (λ c. c || runs rest job) is_job ∙ later ∙ sym (ap (λ c. (c || runs ids job) && not b) is_job)

  has_push : (ns : List ℕ) (other : ℕ) → has (ns ++ other ∷ []) job ≡ (has ns job || other == job)
  has_push ns other = list_any-append (λ m. m == job) ns (other ∷ []) ∙ ap (λ c. has ns job || c) (alone (other == job))
    where
      alone : (c : Bool) → (c || false) ≡ c
      alone true = refl
      alone false = refl

  cancel_agrees : (other : ℕ) (v : Turn) → Agrees v → Agrees (cancel other v)
  cancel_agrees other v agrees = by_test (has v.pending other || runs v.running other)
    where
      told_too : (f c b : Bool) → (not (f || c) && not b) ≡ not (f || (c || b))
      told_too true c b = refl
      told_too false true b = refl
      told_too false false b = refl

      by_test : (t : Bool) → Agrees (cond t (record v { pending = without other v.pending; running = but_of other v.running; cancelled = v.cancelled ++ other ∷ [] }) v)
      by_test true =
          runs_but other (other == job) refl v.running ∙ ap (λ r. r && not (other == job)) agrees ∙ told_too (has v.failed job) (has v.cancelled job) (other == job)
          ∙ ap (λ c. not (has v.failed job || c)) (sym (has_push v.cancelled other))
      by_test false = agrees

  fail_agrees : (other : ℕ) (v : Turn) → Agrees v → Agrees (fail other v)
  fail_agrees other v agrees = by_test (runs v.running other)
    where
      told_too : (f c b : Bool) → (not (f || c) && not b) ≡ not ((f || b) || c)
      told_too true c b = refl
      told_too false true true = refl
      told_too false true false = refl
      told_too false false true = refl
      told_too false false false = refl

      by_test : (t : Bool) → Agrees (cond t (record v { pending = put_number other v.pending; running = but_of other v.running; failed = v.failed ++ other ∷ [] }) v)
      by_test true =
          runs_but other (other == job) refl v.running ∙ ap (λ r. r && not (other == job)) agrees ∙ told_too (has v.failed job) (has v.cancelled job) (other == job)
          ∙ ap (λ f. not (f || has v.cancelled job)) (sym (has_push v.failed other))
      by_test false = agrees

  fail_on_agrees : (held : Option ℕ) (v : Turn) → Agrees v → Agrees (fail_on held v)
  fail_on_agrees None v agrees = agrees
  fail_on_agrees (Some other) v agrees = fail_agrees other v agrees

  module _ (holder : ℕ → Option ℕ) where
    happen_agrees : (what : Happening) (v : Turn) → Agrees v → Agrees (happen holder what v)
    happen_agrees (Arrive other) v agrees = agrees
    happen_agrees (Cancel other) v agrees = cancel_agrees other v agrees
    happen_agrees (Drain node) v agrees = agrees
    happen_agrees (Undrain node) v agrees = agrees
    happen_agrees (Fail node) v agrees = fail_on_agrees (holder node) (record v { drained = set v.drained node true }) agrees

    all_agree : (es : List Event) (v : Turn) → Agrees v → Agrees (happen_all holder es v)
    all_agree [] v agrees = agrees
    all_agree (e ∷ es) v agrees = all_agree es (happen holder e.what v) (happen_agrees e.what v agrees)

there : {X : Type 0} (y : X) (xs : List X) (x : X) → Contains xs x → Contains (y ∷ xs) x
there y xs x at = (suc at.0, omega (arith, at.1), at.2)

pub passing : {X : Type 0} (test : X → Bool) (xs : List X) (x : X) → Contains xs x → test x ≡ true → Contains (filter test xs) x
passing test [] x at passes = absurd (omega (arith, at.1))
passing {X} test (y ∷ ys) x at passes = by_place at.0 at.1 at.2 (λ k lt is. passing test ys x (k, lt, is) passes)
  where
    later : (b : Bool) → Contains (filter test ys) x → Contains (cond b (y ∷ filter test ys) (filter test ys)) x
    later true rest = there y (filter test ys) x rest
    later false rest = rest

    first : (b : Bool) → b ≡ true → Contains (cond b (y ∷ filter test ys) (filter test ys)) y
    first true is = (0, omega arith, refl)
    first false is = absurd cc

    by_place : (k : ℕ) → k < suc (length ys) → get_or (y ∷ ys) k x ≡ x → ((k : ℕ) → k < length ys → get_or ys k x ≡ x → Contains (filter test ys) x) →
        Contains (cond (test y) (y ∷ filter test ys) (filter test ys)) x
    by_place zero lt is rest = subst (λ z. Contains (cond (test y) (y ∷ filter test ys) (filter test ys)) z) is (first (test y) (ap test is ∙ passes))
    by_place (suc k) lt is rest = later (test y) (rest k (omega (arith, lt)) is)

alike : {X : Type 0} (f g : X → Bool) (xs : List X) → Each (λ x. f x ≡ g x) xs → filter f xs ≡ filter g xs
alike f g [] h = refl
alike f g (x ∷ xs) h = ap (λ b. cond b (x ∷ filter f xs) (filter f xs)) h.0 ∙ ap (λ ys. cond (g x) (x ∷ ys) ys) (alike f g xs h.1)

commutes : {X : Type 0} (key : X → X) (f : X → Bool) → ((x : X) → f (key x) ≡ f x) → (xs : List X) → map key (filter f xs) ≡ filter f (map key xs)
commutes key f same [] = refl
commutes key f same (x ∷ xs) = by_test (f x) (commutes key f same xs) ∙ ap (λ b. cond b (key x ∷ filter f (map key xs)) (filter f (map key xs))) (sym (same x))
  where
    by_test : (b : Bool) → map key (filter f xs) ≡ filter f (map key xs) →
        map key (cond b (x ∷ filter f xs) (filter f xs)) ≡ cond b (key x ∷ filter f (map key xs)) (filter f (map key xs))
    by_test true rest = ap (λ ys. key x ∷ ys) rest
    by_test false rest = rest

prolonged_run : (now : ℕ) (ps : List Piece) → map as_run (map (prolonged now) ps) ≡ map as_run ps
prolonged_run now [] = refl
prolonged_run now (p ∷ ps) = ap (λ q. q ∷ map as_run (map (prolonged now) ps)) (by_test (is_over now p)) ∙ ap (λ qs. as_run p ∷ qs) (prolonged_run now ps)
  where
    by_test : (b : Bool) → as_run (cond b (record p { expected = now + 1 }) p) ≡ as_run p
    by_test true = refl
    by_test false = refl

module _ (t : Scenario) (s : Snapshot) where
  -- a piece of the state runs on where it does not end and nothing is told of its job
  agree : (p : Piece) → Contains s.pieces p → (not (has_ended s.now p) && runs (turn t s).running p.job) ≡ runs_on (fate_of (occurring t s) s.now p)
  agree p at = by_end (has_ended s.now p) refl
    where
      by_told : (f c r : Bool) → r ≡ not (f || c) → r ≡ runs_on (cond f Failed (cond c Cancelled RunsOn))
      by_told true c r e = e
      by_told false true r e = e
      by_told false false r e = e

      by_end : (b : Bool) → has_ended s.now p ≡ b →
          (not b && runs (turn t s).running p.job) ≡ runs_on (cond b Ended (cond (has (turn t s).failed p.job) Failed (cond (has (turn t s).cancelled p.job) Cancelled RunsOn)))
      by_end true is = refl
      by_end false is =
          let stays : Contains (running_on s) p = passing (λ q. not (has_ended s.now q)) s.pieces p at (ap not is) in
          by_told (has (turn t s).failed p.job) (has (turn t s).cancelled p.job) (runs (turn t s).running p.job)
          (all_agree p.job (holder_in (running_on s)) (events_at t s.now) (unturned s) (told_runs (running_on s) p stays))

  pub stay_alike : state_staying t s ≡ filter (λ p. runs_on (fate_of (occurring t s) s.now p)) s.pieces
  stay_alike =
      sym (filter_both (λ (p : Piece). not (has_ended s.now p)) (λ (p : Piece). runs (turn t s).running p.job) s.pieces)
      ∙ alike (λ p. not (has_ended s.now p) && runs (turn t s).running p.job) (λ p. runs_on (fate_of (occurring t s) s.now p)) s.pieces
      (each_from (λ p. (not (has_ended s.now p) && runs (turn t s).running p.job) ≡ runs_on (fate_of (occurring t s) s.now p)) s.pieces
      (λ k d lt. agree (get_or s.pieces k d) (k, lt, get_or_default s.pieces k (get_or s.pieces k d) d lt)))

  pub same_on : (active : List Piece) (b : Block) → AreSameRuns s.pieces active → AreSameRuns (next t s b).pieces (running t s active b)
  same_on active b same =
      let f : Piece → Bool = λ p. runs_on (fate_of (occurring t s) s.now p) in
      let new : List Piece = new_pieces t (instance_of t (begin t s)) b.grants in
      map-append as_run (map (prolonged s.now) (state_staying t s)) new
      ∙ ap (λ ps. ps ++ map as_run new)
      (prolonged_run s.now (state_staying t s) ∙ ap (map as_run) stay_alike ∙ commutes as_run f (λ p. refl) s.pieces ∙ ap (filter f) same ∙ sym (commutes as_run f (λ p. refl) active))
      ∙ sym (map-append as_run (staying (occurring t s) s.now active) new)
