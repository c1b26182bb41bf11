-- Which jobs arrive in a slot.
use Rattle.std.proofs.Common.{ℕ, ◌+◌, ◌==◌, subst, arith}
use Rattle.tetri_base.specs.Lists.{Each}
use Rattle.tetri_base.proofs.ListLaws.{Each-both, eq_from_test}
use Rattle.tetri_trace.specs.declared.trace.Event.{Event}
use Rattle.tetri_trace.specs.declared.trace.Happening.{Happening}
use Rattle.tetri_trace.specs.declared.trace.Happening.TheVariants.{Arrive, Cancel, Drain, Undrain, Fail}
use Rattle.tetri_trace.specs.Scenario.{Scenario}
use Rattle.tetri_trace.specs.Sound.{ArrivesOnTime, IsSound, NamesKnown}
use Rattle.tetri_trace.proofs.TraceLaws.{arrive_on_time}
use Rattle.tetri_state.specs.Begin.{events_at}
use Rattle.tetri_state.specs.Snapshot.{ArrivedBefore}
use Rattle.tetri_state.proofs.Ascending.{each_from, each_passing}
use Rattle.tetri_state.proofs.SoundLemmas.{OfArrival}

module _ (t : Scenario) where
  pub arrived_later : (now job : ℕ) → ArrivedBefore t now job → ArrivedBefore t (now + 1) job
  arrived_later now job known = (known.0, omega (arith, known.1))

  -- a job that arrives in a slot arrived before the next one
  arrived_at : (at : ℕ) (what : Happening) → NamesKnown t what → ArrivesOnTime t at what → OfArrival (ArrivedBefore t (at + 1)) what
  arrived_at at (Arrive job) known on_time = (known, omega (arith, on_time))
  arrived_at at (Cancel job) known on_time = tt
  arrived_at at (Drain node) known on_time = tt
  arrived_at at (Undrain node) known on_time = tt
  arrived_at at (Fail node) known on_time = tt

  pub arrivals_before : IsSound t → (now : ℕ) → Each (λ e. OfArrival (ArrivedBefore t (now + 1)) e.what) (events_at t now)
  arrivals_before sound now =
      each_passing (λ e. e.at == now) (λ e. OfArrival (ArrivedBefore t (e.at + 1)) e.what) (λ e. OfArrival (ArrivedBefore t (now + 1)) e.what)
      (λ e here is. subst (λ n. OfArrival (ArrivedBefore t (n + 1)) e.what) (eq_from_test e.at now is) here) t.events
      (Each-both (λ e. NamesKnown t e.what) (λ e. ArrivesOnTime t e.at e.what) (λ e. OfArrival (ArrivedBefore t (e.at + 1)) e.what)
      (λ e known on_time. arrived_at e.at e.what known on_time) t.events
      (each_from (λ (e : Event). NamesKnown t e.what) t.events sound.known) (each_from (λ (e : Event). ArrivesOnTime t e.at e.what) t.events (arrive_on_time t sound)))
