-- A piece runs on unless it is told that it ended, was cancelled or failed.
use Rattle.std.proofs.Common.{◌≡◌, ℕ, ◌+◌, ◌<◌, ◌==◌, ◌||◌, ◌⊎◌, Bool, true, false, cond, List, [], ◌∷◌, ◌++◌, Option, Some, None, length, get_or, map, filter, not, set, Contains, refl, sym, ap, ◌∙◌, subst, inl, inr, ⊎_elim, arith, zero, suc}
use Rattle.std.proofs.lemmas.Bool.Decides.{nat_tests}
use Rattle.std.proofs.lemmas.List.Elements.{Contains-append_left, Contains-push}
use Rattle.std.proofs.lemmas.List.Folds.{list_any_at}
use Rattle.tetri_base.specs.Lists.{has}
use Rattle.tetri_base.specs.Order.{in_order, put}
use Rattle.tetri_trace.specs.declared.trace.Event.{Event}
use Rattle.tetri_trace.specs.declared.trace.Happening.{Happening}
use Rattle.tetri_trace.specs.declared.trace.Happening.TheVariants.{Arrive, Cancel, Drain, Undrain, Fail}
use Rattle.tetri_trace.specs.Scenario.{Scenario}
use Rattle.tetri_state.specs.declared.happened.PieceId.{PieceId}
use Rattle.tetri_state.specs.declared.pieces.Piece.{Piece}
use Rattle.tetri_state.specs.Begin.{Turn, but_of, cancel, comes_before, events_at, fail, fail_on, happen, happen_all, has_ended, holder_in, is_over, named, prolonged, put_number, running_on, runs, staying, told, turn, unturned, without}
use Rattle.tetri_state.specs.Pieces.{IsSameRun, RunsOnUnlessTold}
use Rattle.tetri_state.specs.Snapshot.{Snapshot}

here : {X : Type 0} (x : X) (xs : List X) → Contains (x ∷ xs) x
here x xs = (0, omega arith, refl)

there : {X : Type 0} (y : X) (xs : List X) (x : X) → Contains xs x → Contains (y ∷ xs) x
there y xs x at = (suc at.0, omega (arith, at.1), at.2)

head_or_tail : {X : Type 0} (P : X → Type 0) (y : X) (ys : List X) (x : X) → Contains (y ∷ ys) x → P y → (Contains ys x → P x) → P x
head_or_tail P y ys x at first rest = by_place at.0 at.1 at.2
  where
    by_place : (k : ℕ) → k < suc (length ys) → get_or (y ∷ ys) k x ≡ x → P x
    by_place zero lt is = subst P is first
    by_place (suc k) lt is = rest (k, omega arith, is)

passing : {X : Type 0} (test : X → Bool) (xs : List X) (x : X) → Contains xs x → test x ≡ true → Contains (filter test xs) x
passing test [] x at passes = absurd (omega (arith, at.1))
passing {X} test (y ∷ ys) x at passes =
    head_or_tail (λ z. test z ≡ true → Contains (cond (test y) (y ∷ filter test ys) (filter test ys)) z) y ys x at
    (λ is. ap_test (test y) is) (λ later is. by_test (test y) (passing test ys x later is)) passes
  where
    ap_test : (b : Bool) → b ≡ true → Contains (cond b (y ∷ filter test ys) (filter test ys)) y
    ap_test true is = here y (filter test ys)
    ap_test false is = absurd cc

    by_test : (b : Bool) → Contains (filter test ys) x → Contains (cond b (y ∷ filter test ys) (filter test ys)) x
    by_test true later = there y (filter test ys) x later
    by_test false later = later

mapped : {X Y : Type 0} (f : X → Y) (xs : List X) (x : X) → Contains xs x → Contains (map f xs) (f x)
mapped f [] x at = absurd (omega (arith, at.1))
mapped f (y ∷ ys) x at =
    head_or_tail (λ z. Contains (f y ∷ map f ys) (f z)) y ys x at (here (f y) (map f ys)) (λ later. there (f y) (map f ys) (f x) (mapped f ys x later))

put_here : (a : PieceId) (bs : List PieceId) → Contains (put comes_before a bs) a
put_here a [] = here a []
put_here a (b ∷ bs) = by_test (comes_before b a) (put_here a bs)
  where
    by_test : (t : Bool) → Contains (put comes_before a bs) a → Contains (cond t (b ∷ put comes_before a bs) (a ∷ b ∷ bs)) a
    by_test true rest = there b (put comes_before a bs) a rest
    by_test false rest = here a (b ∷ bs)

put_there : (a : PieceId) (bs : List PieceId) (x : PieceId) → Contains bs x → Contains (put comes_before a bs) x
put_there a [] x at = absurd (omega (arith, at.1))
put_there a (b ∷ bs) x at = by_test (comes_before b a) (put_there a bs x)
  where
    by_test : (t : Bool) → (Contains bs x → Contains (put comes_before a bs) x) → Contains (cond t (b ∷ put comes_before a bs) (a ∷ b ∷ bs)) x
    by_test true rest = head_or_tail (λ z. Contains (b ∷ put comes_before a bs) z) b bs x at (here b (put comes_before a bs)) (λ later. there b (put comes_before a bs) x (rest later))
    by_test false rest = there a (b ∷ bs) x at

ordered : (ids : List PieceId) (x : PieceId) → Contains ids x → Contains (in_order comes_before ids) x
ordered [] x at = absurd (omega (arith, at.1))
ordered (a ∷ ids) x at =
    head_or_tail (λ z. Contains (put comes_before a (in_order comes_before ids)) z) a ids x at (put_here a (in_order comes_before ids))
    (λ later. put_there a (in_order comes_before ids) x (ordered ids x later))

-- what pieces are told by has each of them
pub told_has : (ps : List Piece) (p : Piece) → Contains ps p → Contains (told ps) (named p)
told_has ps p at = ordered (map named ps) (named p) (mapped named ps p at)

pub told_runs : (ps : List Piece) (p : Piece) → Contains ps p → runs (told ps) p.job ≡ true
told_runs ps p at =
    let t = told_has ps p at in
    list_any_at (λ a. a.job == p.job) (told ps) t.0 (named p) t.1 (same _ (ap (λ (a : PieceId). a.job) t.2))
  where
    same : (m : ℕ) → m ≡ p.job → (m == p.job) ≡ true
    same m e = grind (arith, nat_tests)

-- a job of which pieces run at first runs, or was cancelled, or failed
module _ (job : ℕ) where
  abbrev RunsOrTold : Turn → Type 0
  RunsOrTold v = (runs v.running job ≡ true) ⊎ (Contains v.cancelled job ⊎ Contains v.failed job)

  runs_without : (other : ℕ) → (other == job) ≡ false → (ids : List PieceId) → runs ids job ≡ true → runs (filter (λ a. not (a.job == other)) ids) job ≡ true
  runs_without other differ [] runs_on = absurd cc
  runs_without other differ (a ∷ ids) runs_on = by_tests (a.job == job) (a.job == other) refl refl runs_on (runs_without other differ ids)
    where
      either_true : (b : Bool) → (b || true) ≡ true
      either_true true = refl
      either_true false = refl

      by_tests : (s t : Bool) → (a.job == job) ≡ s → (a.job == other) ≡ t → (s || runs ids job) ≡ true →
          (runs ids job ≡ true → runs (filter (λ b. not (b.job == other)) ids) job ≡ true) →
          runs (cond (not t) (a ∷ filter (λ b. not (b.job == other)) ids) (filter (λ b. not (b.job == other)) ids)) job ≡ true
      by_tests true true is_job is_other e rest = let no_way : ⊥ = grind (arith, nat_tests) in absurd no_way
      by_tests true false is_job is_other e rest = ap (λ b. b || runs (filter (λ c. not (c.job == other)) ids) job) is_job
      by_tests false true is_job is_other e rest = rest e
      by_tests false false is_job is_other e rest = ap (λ b. a.job == job || b) (rest e) ∙ either_true (a.job == job)

  -- the last of a list
  last_told : (jobs : List ℕ) (other : ℕ) → (other == job) ≡ true → Contains (jobs ++ other ∷ []) job
  last_told jobs other same = let at : other ≡ job = grind (arith, nat_tests) in subst (λ n. Contains (jobs ++ n ∷ []) job) (sym at) (Contains-push jobs job)

  cancel_keeps : (other : ℕ) (v : Turn) → RunsOrTold v → RunsOrTold (cancel other v)
  cancel_keeps other v holds = by_test (has v.pending other || runs v.running other)
    where
      by_job : (b : Bool) → (other == job) ≡ b → runs v.running job ≡ true →
          (runs (but_of other v.running) job ≡ true) ⊎ (Contains (v.cancelled ++ other ∷ []) job ⊎ Contains v.failed job)
      by_job true same runs_on = inr (inl (last_told v.cancelled other same))
      by_job false differ runs_on = inl (runs_without other differ v.running runs_on)

      by_test : (b : Bool) → RunsOrTold (cond b (record v { pending = without other v.pending; running = but_of other v.running; cancelled = v.cancelled ++ other ∷ [] }) v)
      by_test true =
          ⊎_elim (λ runs_on. by_job (other == job) refl runs_on)
          (λ is_told. ⊎_elim (λ at. inr (inl (Contains-append_left v.cancelled (other ∷ []) job at))) (λ at. inr (inr at)) is_told) holds
      by_test false = holds

  fail_keeps : (other : ℕ) (v : Turn) → RunsOrTold v → RunsOrTold (fail other v)
  fail_keeps other v holds = by_test (runs v.running other)
    where
      by_job : (b : Bool) → (other == job) ≡ b → runs v.running job ≡ true →
          (runs (but_of other v.running) job ≡ true) ⊎ (Contains v.cancelled job ⊎ Contains (v.failed ++ other ∷ []) job)
      by_job true same runs_on = inr (inr (last_told v.failed other same))
      by_job false differ runs_on = inl (runs_without other differ v.running runs_on)

      by_test : (b : Bool) → RunsOrTold (cond b (record v { pending = put_number other v.pending; running = but_of other v.running; failed = v.failed ++ other ∷ [] }) v)
      by_test true =
          ⊎_elim (λ runs_on. by_job (other == job) refl runs_on)
          (λ is_told. ⊎_elim (λ at. inr (inl at)) (λ at. inr (inr (Contains-append_left v.failed (other ∷ []) job at))) is_told) holds
      by_test false = holds

  fail_on_keeps : (held : Option ℕ) (v : Turn) → RunsOrTold v → RunsOrTold (fail_on held v)
  fail_on_keeps None v holds = holds
  fail_on_keeps (Some other) v holds = fail_keeps other v holds

  module _ (holder : ℕ → Option ℕ) where
    happen_keeps : (what : Happening) (v : Turn) → RunsOrTold v → RunsOrTold (happen holder what v)
    happen_keeps (Arrive other) v holds = holds
    happen_keeps (Cancel other) v holds = cancel_keeps other v holds
    happen_keeps (Drain node) v holds = holds
    happen_keeps (Undrain node) v holds = holds
    happen_keeps (Fail node) v holds = fail_on_keeps (holder node) (record v { drained = set v.drained node true }) holds

    happen_all_keeps : (es : List Event) (v : Turn) → RunsOrTold v → RunsOrTold (happen_all holder es v)
    happen_all_keeps [] v holds = holds
    happen_all_keeps (e ∷ es) v holds = happen_all_keeps es (happen holder e.what v) (happen_keeps e.what v holds)

same_run : (now : ℕ) (p : Piece) → IsSameRun p (prolonged now p)
same_run now p = by_test (is_over now p)
  where
    by_test : (b : Bool) → IsSameRun p (cond b (record p { expected = now + 1 }) p)
    by_test true = record { job = refl; leaf = refl; nodes = refl; started = refl; real = refl }
    by_test false = record { job = refl; leaf = refl; nodes = refl; started = refl; real = refl }

pub runs_on_unless_told : (t : Scenario) (s : Snapshot) (p : Piece) → Contains s.pieces p → RunsOnUnlessTold t s p
runs_on_unless_told t s p at = by_end (has_ended s.now p) refl
  where
    negated : (b : Bool) → b ≡ false → not b ≡ true
    negated true e = absurd cc
    negated false e = refl

    by_job : Contains (running_on s) p → (b : Bool) → runs (turn t s).running p.job ≡ b → RunsOnUnlessTold t s p
    by_job on true runs_on =
        inl
        (prolonged s.now p, mapped (prolonged s.now) (staying t s) p (passing (λ (q : Piece). runs (turn t s).running q.job) (running_on s) p on runs_on), same_run s.now p)
    by_job on false left =
        inr (inr
        (⊎_elim (λ runs_on. let e : true ≡ false = sym runs_on ∙ left in absurd cc) (λ is_told. is_told)
        (happen_all_keeps p.job (holder_in (running_on s)) (events_at t s.now) (unturned s) (inl (told_runs (running_on s) p on)))))

    by_end : (b : Bool) → has_ended s.now p ≡ b → RunsOnUnlessTold t s p
    by_end true ended = inr (inl (told_has (filter (has_ended s.now) s.pieces) p (passing (has_ended s.now) s.pieces p at ended)))
    by_end false runs_on =
        by_job (passing (λ q. not (has_ended s.now q)) s.pieces p at (negated (has_ended s.now p) runs_on)) (runs (turn t s).running p.job) refl
