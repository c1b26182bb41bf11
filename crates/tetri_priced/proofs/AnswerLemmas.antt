-- What pricing says of a report that is checked.
use Rattle.std.proofs.Common.{◌≡◌, ◌⊎◌, ℕ, List, [], ◌∷◌, ◌++◌, refl, sym, ap, ◌∙◌, subst, ⊎_elim}
use Rattle.std.specs.Io.KnownBytes.{append_known}
use Rattle.std.specs.Prelude.{Option, Result, Ok}
use Rattle.tetri_claims.specs.Good.{BoundsEveryLawful}
use Rattle.tetri_cycles.proofs.CycleLaws.{behind_last}
use Rattle.tetri_cycles.specs.Observed.{behind, next}
use Rattle.tetri_io.specs.Sink.{AppendsPart}
use Rattle.tetri_notice.specs.declared.fault.TraceWhy.{TraceWhy}
use Rattle.tetri_run.specs.CheckEnds.{HasSeen, IsHaltOf}
use Rattle.tetri_report.specs.Block.{Block}
use Rattle.tetri_run.specs.Run.{BoundsHold, in_order, state_behind}
use Rattle.tetri_run.specs.declared.status.Status.{Status}
use Rattle.tetri_run.specs.declared.status.Status.TheVariants.{Done, Refused, Usage, ReadFault, WriteFault, BadTrace, NoMemory}
use Rattle.tetri_space.specs.Space.{Space}
use Rattle.tetri_state.specs.Planning.{instance_at}
use Rattle.tetri_state.specs.Snapshot.{opening_state}
use Rattle.tetri_trace.specs.Scenario.{Scenario}
use Rattle.tetri_priced.specs.Answer.{IsPricedPromised, TellsReport}
use Rattle.tetri_priced.specs.Cycle.{Given}
use Rattle.tetri_priced.specs.Run.{AreTold, IsPricedAs}
use Rattle.tetri_priced.specs.Text.{priced_text}
use Rattle.tetri_priced.specs.declared.cycle.PricedCycle.{PricedCycle}
use Rattle.tetri_priced.specs.declared.noting.Noting.{Noting}
use Rattle.tetri_priced.specs.declared.wanted.Wanted.{Wanted}
use Rattle.tetri_priced.proofs.NotedLemmas.{all_bounded, all_noted, AllBound, bound_last, saw}

-- no lawful allotment of a run's cycles is worth more than their bounds
module _ (t : Scenario) where
  -- the state behind the cycles of a run
  behind_run : (past : List Block) → behind t (opening_state t) (in_order past) ≡ state_behind t past
  behind_run [] = refl
  behind_run (b ∷ past) = behind_last t (opening_state t) (in_order past) b ∙ ap (λ s. next t s b) (behind_run past)

  pub run_bound : (past : List Block) → BoundsHold t past → AllBound t (opening_state t) (in_order past)
  run_bound [] bounds = tt
  run_bound (b ∷ past) bounds =
      bound_last t (opening_state t) (in_order past) b (run_bound past bounds.2)
      (subst (λ s. BoundsEveryLawful (instance_at t s) b.bound) (sym (behind_run past)) bounds.1)

-- what was noted while the report was checked tells it
module _ {P : Type 0} (gives : P → Space → ℕ → ℕ → Option Given → P → Type 0) (t : Scenario) (report : List ℕ) (old new : Noting P) where
  abbrev wanted : Noting P → Wanted
  wanted n = n.wanted

  abbrev pricer : Noting P → P
  pricer n = n.pricer

  abbrev cycles : Noting P → List PricedCycle
  cycles n = n.cycles.items

  pub noting_tells : HasSeen (saw gives wanted pricer cycles) t report old new → (w : Wanted) (p : P) (cs : List PricedCycle) → old.wanted ≡ w → old.pricer ≡ p →
      old.cycles.items ≡ [] → cs ≡ new.cycles.items → TellsReport gives p w t report (priced_text t w.prices cs)
  noting_tells seen w p cs asked held nothing are =
      let past = seen.assured.accepted.past in
      let s = opening_state t in
      let many = all_noted gives wanted pricer cycles t s (in_order past) old new seen.observed in
      let told = subst (λ v. AreTold (IsPricedAs gives) v t s old.pricer (in_order past) many.noted new.pricer) asked many.told in
      let from = subst (λ q. AreTold (IsPricedAs gives) w t s q (in_order past) many.noted new.pricer) held told in
      record {
        accepted = seen.assured.accepted;
        cycles = many.noted;
        last = new.pricer;
        told = all_bounded gives t w s p (in_order past) many.noted new.pricer (run_bound t past seen.assured.bounds) from;
        is = ap (priced_text t w.prices) (are ∙ many.grown ∙ ap (λ xs. xs ++ many.noted) nothing);
      }

module _ {P : Type 0} (gives : P → Space → ℕ → ℕ → Option Given → P → Type 0) (pricer : P) where
  -- what telling the report answers that was accepted
  pub told_promised : (w : Wanted) (trace : Result Scenario (ℕ × TraceWhy)) (t : Scenario) (report text : List ℕ) → trace ≡ Ok t → TellsReport gives pricer w t report text → (status : Status) (before after : Option (List ℕ)) →
      (status ≡ Done → after ≡ append_known before text) → (status ≡ WriteFault → AppendsPart before after text) → (status ≡ NoMemory → after ≡ before) →
      (status ≡ Done) ⊎ ((status ≡ WriteFault) ⊎ (status ≡ NoMemory)) → IsPricedPromised gives pricer w status trace report before after
  told_promised w trace t report text is tells Done before after done failed silent ends = (t, (is, (text, (tells, done refl))))
  told_promised w trace t report text is tells (Refused line why) before after done failed silent ends = absurd (⊎_elim (λ e. absurd cc) (λ more. ⊎_elim (λ e. absurd cc) (λ e. absurd cc) more) ends)
  told_promised w trace t report text is tells Usage before after done failed silent ends = absurd (⊎_elim (λ e. absurd cc) (λ more. ⊎_elim (λ e. absurd cc) (λ e. absurd cc) more) ends)
  told_promised w trace t report text is tells ReadFault before after done failed silent ends = absurd (⊎_elim (λ e. absurd cc) (λ more. ⊎_elim (λ e. absurd cc) (λ e. absurd cc) more) ends)
  told_promised w trace t report text is tells WriteFault before after done failed silent ends = (t, (is, (text, (tells, failed refl))))
  told_promised w trace t report text is tells (BadTrace line why) before after done failed silent ends = absurd (⊎_elim (λ e. absurd cc) (λ more. ⊎_elim (λ e. absurd cc) (λ e. absurd cc) more) ends)
  told_promised w trace t report text is tells NoMemory before after done failed silent ends = silent refl

  -- what a check answers that accepts no report, where nothing is written
  pub halted_promised : (w : Wanted) (status : Status) (trace : Result Scenario (ℕ × TraceWhy)) (report : List ℕ) (before : Option (List ℕ)) → IsHaltOf status trace report →
      IsPricedPromised gives pricer w status trace report before before
  halted_promised w Done trace report before halted = absurd halted
  halted_promised w (Refused line why) trace report before halted = (halted.0, (halted.1, (halted.2, (halted.3, refl))))
  halted_promised w Usage trace report before halted = absurd halted
  halted_promised w ReadFault trace report before halted = refl
  halted_promised w WriteFault trace report before halted = absurd halted
  halted_promised w (BadTrace line why) trace report before halted = (halted, refl)
  halted_promised w NoMemory trace report before halted = refl
