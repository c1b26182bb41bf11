-- What a sound scenario says of its events and jobs.
use Rattle.std.proofs.Common.{◌≡◌, ℕ, ◌==◌, ◌||◌, Bool, true, false, cond, List, [], ◌∷◌, ◌++◌, Option, Some, None, length, get_or, set, All, refl, ap, subst, arith, inl, inr, not}
use Rattle.std.specs.List.{find}
use Rattle.std.specs.List.Sorted.{IsNonDecreasingBy}
use Rattle.std.specs.Option.{option_map}
use Rattle.std.proofs.lemmas.Bool.{cases_lt}
use Rattle.std.proofs.lemmas.List.Elements.{All-filter, All-weaker}
use Rattle.tetri_base.specs.Lists.{Each, has}
use Rattle.tetri_base.proofs.ListLaws.{Each-filter}
use Rattle.tetri_trace.specs.declared.trace.Event.{Event}
use Rattle.tetri_trace.specs.declared.trace.Happening.{Happening}
use Rattle.tetri_trace.specs.declared.trace.Happening.TheVariants.{Arrive, Cancel, Drain, Undrain, Fail}
use Rattle.tetri_trace.specs.Scenario.{Scenario}
use Rattle.tetri_trace.specs.Sound.{IsSound, NamesKnown}
use Rattle.tetri_state.specs.declared.pieces.Piece.{Piece}
use Rattle.tetri_state.specs.Begin.{IsOfNodeBelow, Turn, but_of, cancel, events_at, fail, fail_on, happen, happen_all, holder_in, put_number, runs, without}
use Rattle.tetri_state.proofs.Ascending.{put_each}

of_node : (t : Scenario) (what : Happening) → NamesKnown t what → IsOfNodeBelow (length t.nodes) what
of_node t (Arrive job) known = tt
of_node t (Cancel job) known = tt
of_node t (Drain node) known = known
of_node t (Undrain node) known = known
of_node t (Fail node) known = known

-- the nodes of the events of a slot are there
pub nodes_known : (t : Scenario) (now : ℕ) → IsSound t → All (λ e. IsOfNodeBelow (length t.nodes) e.what) (events_at t now)
nodes_known t now sound =
    All-filter (λ e. e.at == now) (λ e. IsOfNodeBelow (length t.nodes) e.what) t.events
    (All-weaker (λ e. NamesKnown t e.what) (λ e. IsOfNodeBelow (length t.nodes) e.what) (λ e known. of_node t e.what known) t.events sound.known)

pub slots_rise : (t : Scenario) → IsSound t → IsNonDecreasingBy (λ e. e.at) t.events
slots_rise t sound i j d le lt = elim (cases_lt i j) [
  | inl before ↦ sound.events_ascend i j d before lt
  | inr same ↦ let at : i ≡ j = omega arith in let equal = ap (λ k. (get_or t.events k d).at) at in omega (arith, equal)
]

-- where a job arrives, this holds of it
abbrev pub OfArrival : (ℕ → Type 0) → Happening → Type 0
OfArrival P (Arrive job) = P job
OfArrival P (Cancel job) = Unit {0}
OfArrival P (Drain node) = Unit {0}
OfArrival P (Undrain node) = Unit {0}
OfArrival P (Fail node) = Unit {0}

pub arrival_weaker : (P Q : ℕ → Type 0) → ((job : ℕ) → P job → Q job) → (what : Happening) → OfArrival P what → OfArrival Q what
arrival_weaker P Q step (Arrive job) here = step job here
arrival_weaker P Q step (Cancel job) here = tt
arrival_weaker P Q step (Drain node) here = tt
arrival_weaker P Q step (Undrain node) here = tt
arrival_weaker P Q step (Fail node) here = tt

-- what holds of all pending jobs, of those that arrive and of those on the nodes holds of those that are pending afterwards
module _ (P : ℕ → Type 0) (holder : ℕ → Option ℕ) (held : (node job : ℕ) → holder node ≡ Some job → P job) where
  cancel_pending : (job : ℕ) (v : Turn) → Each P v.pending → Each P (cancel job v).pending
  cancel_pending job v each = by_test (has v.pending job || runs v.running job)
    where
      by_test : (b : Bool) → Each P (cond b (record v { pending = without job v.pending; running = but_of job v.running; cancelled = v.cancelled ++ job ∷ [] }) v).pending
      by_test true = Each-filter P (λ m. not (m == job)) v.pending each
      by_test false = each

  fail_pending : (job : ℕ) (v : Turn) → P job → Each P v.pending → Each P (fail job v).pending
  fail_pending job v here each = by_test (runs v.running job)
    where
      by_test : (b : Bool) → Each P (cond b (record v { pending = put_number job v.pending; running = but_of job v.running; failed = v.failed ++ job ∷ [] }) v).pending
      by_test true = put_each job P v.pending here each
      by_test false = each

  fail_on_pending : (o : Option ℕ) (v : Turn) → ((job : ℕ) → o ≡ Some job → P job) → Each P v.pending → Each P (fail_on o v).pending
  fail_on_pending None v here each = each
  fail_on_pending (Some job) v here each = fail_pending job v (here job refl) each

  happen_pending : (what : Happening) (v : Turn) → OfArrival P what → Each P v.pending → Each P (happen holder what v).pending
  happen_pending (Arrive job) v here each = put_each job P v.pending here each
  happen_pending (Cancel job) v here each = cancel_pending job v each
  happen_pending (Drain node) v here each = each
  happen_pending (Undrain node) v here each = each
  happen_pending (Fail node) v here each = fail_on_pending (holder node) (record v { drained = set v.drained node true }) (held node) each

  pub happen_all-pending : (es : List Event) (v : Turn) → Each (λ e. OfArrival P e.what) es → Each P v.pending → Each P (happen_all holder es v).pending
  happen_all-pending [] v here each = each
  happen_all-pending (e ∷ es) v here each = happen_all-pending es (happen holder e.what v) here.1 (happen_pending e.what v here.0 each)

-- the job on a node is one of a piece
module _ (P : ℕ → Type 0) where
  pub held_of : (ps : List Piece) → Each (λ p. P p.job) ps → (node job : ℕ) → holder_in ps node ≡ Some job → P job
  held_of [] each node job is = absurd cc
  held_of (p ∷ ps) each node job is = by_test (has p.nodes node) is (held_of ps each.1 node job)
    where
      by_test : (b : Bool) → option_map (λ (q : Piece). q.job) (cond b (Some p) (find (λ q. has q.nodes node) ps)) ≡ Some job → (holder_in ps node ≡ Some job → P job) → P job
      by_test true here rest = let same : p.job ≡ job = cc in subst P same each.0
      by_test false here rest = rest here
