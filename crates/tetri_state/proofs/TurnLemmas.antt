-- What events change.
use Rattle.std.proofs.Common.{◌≡◌, ℕ, ◌==◌, ◌||◌, Bool, true, false, cond, List, [], ◌∷◌, ◌++◌, Option, Some, None, length, refl, ap, ◌∙◌, not, set, length-set}
use Rattle.std.specs.List.Sorted.{IsNonDecreasingBy}
use Rattle.std.proofs.lemmas.List.Kept.{IsNonDecreasingBy-filter}
use Rattle.tetri_base.specs.Lists.{Ascends, has}
use Rattle.tetri_base.proofs.ListLaws.{filter-ascends}
use Rattle.tetri_trace.specs.declared.trace.Event.{Event}
use Rattle.tetri_trace.specs.declared.trace.Happening.{Happening}
use Rattle.tetri_trace.specs.declared.trace.Happening.TheVariants.{Arrive, Cancel, Drain, Undrain, Fail}
use Rattle.tetri_state.specs.declared.happened.PieceId.{PieceId}
use Rattle.tetri_state.specs.Begin.{Turn, but_of, cancel, fail, fail_on, happen, happen_all, put_number, runs, without}
use Rattle.tetri_state.proofs.Ascending.{put-ascend}

-- a job that is neither pending nor runs
pub cancel_passed : (job : ℕ) (v : Turn) → has v.pending job ≡ false → runs v.running job ≡ false → cancel job v ≡ v
cancel_passed job v waits runs_on = by_tests (has v.pending job) (runs v.running job) waits runs_on
  where
    by_tests : (s t : Bool) → s ≡ false → t ≡ false → cond (s || t) (record v { pending = without job v.pending; running = but_of job v.running; cancelled = v.cancelled ++ job ∷ [] }) v ≡ v
    by_tests true t p q = absurd cc
    by_tests false true p q = absurd cc
    by_tests false false p q = refl

-- and one that is or does
pub cancel_done : (job : ℕ) (v : Turn) → (has v.pending job || runs v.running job) ≡ true →
    cancel job v ≡ record v { pending = without job v.pending; running = but_of job v.running; cancelled = v.cancelled ++ job ∷ [] }
cancel_done job v some = by_test (has v.pending job || runs v.running job) some
  where
    by_test : {left : Turn} (t : Bool) → t ≡ true → cond t left v ≡ left
    by_test true p = refl
    by_test false p = absurd cc

-- a job of which no piece runs
pub fail_passed : (job : ℕ) (v : Turn) → runs v.running job ≡ false → fail job v ≡ v
fail_passed job v runs_on = by_test (runs v.running job) runs_on
  where
    by_test : (t : Bool) → t ≡ false → cond t (record v { pending = put_number job v.pending; running = but_of job v.running; failed = v.failed ++ job ∷ [] }) v ≡ v
    by_test true p = absurd cc
    by_test false p = refl

-- and one of which some run
pub fail_done : (job : ℕ) (v : Turn) → runs v.running job ≡ true →
    fail job v ≡ record v { pending = put_number job v.pending; running = but_of job v.running; failed = v.failed ++ job ∷ [] }
fail_done job v runs_on = by_test (runs v.running job) runs_on
  where
    by_test : {left : Turn} (t : Bool) → t ≡ true → cond t left v ≡ left
    by_test true p = refl
    by_test false p = absurd cc

-- what holds as events are taken
pub record Keeps (nodes : ℕ) (v : Turn) : Type 0 where
  pub pending : Ascends v.pending
  pub running : IsNonDecreasingBy (λ a. a.job) v.running
  pub drained : length v.drained ≡ nodes

module _ (nodes : ℕ) where
  cancel_keeps : (job : ℕ) (v : Turn) → Keeps nodes v → Keeps nodes (cancel job v)
  cancel_keeps job v keeps = by_test (has v.pending job || runs v.running job)
    where
      by_test : (t : Bool) → Keeps nodes (cond t (record v { pending = without job v.pending; running = but_of job v.running; cancelled = v.cancelled ++ job ∷ [] }) v)
      by_test true = record {
        pending = filter-ascends (λ m. not (m == job)) v.pending keeps.pending;
        running = IsNonDecreasingBy-filter (λ (a : PieceId). a.job) (λ a. not (a.job == job)) v.running keeps.running;
        drained = keeps.drained;
      }
      by_test false = keeps

  fail_keeps : (job : ℕ) (v : Turn) → Keeps nodes v → Keeps nodes (fail job v)
  fail_keeps job v keeps = by_test (runs v.running job)
    where
      by_test : (t : Bool) → Keeps nodes (cond t (record v { pending = put_number job v.pending; running = but_of job v.running; failed = v.failed ++ job ∷ [] }) v)
      by_test true = record {
        pending = put-ascend job v.pending keeps.pending;
        running = IsNonDecreasingBy-filter (λ (a : PieceId). a.job) (λ a. not (a.job == job)) v.running keeps.running;
        drained = keeps.drained;
      }
      by_test false = keeps

  fail_on_keeps : (held : Option ℕ) (v : Turn) → Keeps nodes v → Keeps nodes (fail_on held v)
  fail_on_keeps None v keeps = keeps
  fail_on_keeps (Some job) v keeps = fail_keeps job v keeps

  marked_keeps : (node : ℕ) (b : Bool) (v : Turn) → Keeps nodes v → Keeps nodes (record v { drained = set v.drained node b })
  marked_keeps node b v keeps = record { pending = keeps.pending; running = keeps.running; drained = length-set v.drained node b ∙ keeps.drained }

  pub happen_keeps : (holder : ℕ → Option ℕ) (what : Happening) (v : Turn) → Keeps nodes v → Keeps nodes (happen holder what v)
  happen_keeps holder (Arrive job) v keeps = record { pending = put-ascend job v.pending keeps.pending; running = keeps.running; drained = keeps.drained }
  happen_keeps holder (Cancel job) v keeps = cancel_keeps job v keeps
  happen_keeps holder (Drain node) v keeps = marked_keeps node true v keeps
  happen_keeps holder (Undrain node) v keeps = marked_keeps node false v keeps
  happen_keeps holder (Fail node) v keeps = fail_on_keeps (holder node) (record v { drained = set v.drained node true }) (marked_keeps node true v keeps)

  pub happen_all_keeps : (holder : ℕ → Option ℕ) (es : List Event) (v : Turn) → Keeps nodes v → Keeps nodes (happen_all holder es v)
  happen_all_keeps holder [] v keeps = keeps
  happen_all_keeps holder (e ∷ es) v keeps = happen_all_keeps holder es (happen holder e.what v) (happen_keeps holder e.what v keeps)

-- the same jobs on the nodes
pub happen_all-same : (f g : ℕ → Option ℕ) → ((n : ℕ) → f n ≡ g n) → (es : List Event) (v : Turn) → happen_all f es v ≡ happen_all g es v
happen_all-same f g same [] v = refl
happen_all-same f g same (e ∷ es) v = happen_all-same f g same es (happen f e.what v) ∙ ap (happen_all g es) (one e.what)
  where
    one : (what : Happening) → happen f what v ≡ happen g what v
    one (Arrive job) = refl
    one (Cancel job) = refl
    one (Drain node) = refl
    one (Undrain node) = refl
    one (Fail node) = ap (λ held. fail_on held (record v { drained = set v.drained node true })) (same node)

pub either_left : (s t : Bool) → s ≡ true → (s || t) ≡ true
either_left true t p = refl
either_left false t p = absurd cc

pub either_right : (s t : Bool) → t ≡ true → (s || t) ≡ true
either_right true t p = refl
either_right false t p = p
