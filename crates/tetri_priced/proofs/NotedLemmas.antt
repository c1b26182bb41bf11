-- How what is told of a run grows cycle by cycle, and that what is told bounds every lawful allotment.
use Rattle.std.proofs.Common.{◌≡◌, ℕ, Bool, true, false, List, [], ◌∷◌, ◌++◌, refl, sym, ap, ◌∙◌, subst, append_assoc}
use Rattle.std.proofs.lemmas.List.{append-nil}
use Rattle.tetri_claims.specs.Good.{BoundsEveryLawful}
use Rattle.tetri_cycles.specs.Observed.{Observed, behind, next}
use Rattle.tetri_report.specs.Block.{Block}
use Rattle.tetri_space.specs.Space.{Space}
use Rattle.tetri_state.specs.Planning.{instance_at}
use Rattle.tetri_state.specs.Snapshot.{Snapshot}
use Rattle.tetri_trace.specs.Scenario.{Scenario}
use Rattle.std.specs.Prelude.{Option}
use Rattle.tetri_priced.specs.Cycle.{Given}
use Rattle.tetri_priced.specs.Run.{AreTold, IsBounded, IsNoted, IsPricedAs, IsToldAs, printed}
use Rattle.tetri_priced.specs.Wanted.{is_wanted}
use Rattle.tetri_priced.specs.declared.cycle.PricedCycle.{PricedCycle}
use Rattle.tetri_priced.specs.declared.cycle.Printed.{Printed}
use Rattle.tetri_priced.specs.declared.wanted.Wanted.{Wanted}

-- What pricers may answer, with an observer that holds one.
module _ {O P : Type 0} (gives : P → Space → ℕ → ℕ → Option Given → P → Type 0) (wanted : O → Wanted) (pricer : O → P) (cycles : O → List PricedCycle) where
  -- what was noted of these cycles, behind what was noted before
  pub record AreNoted (t : Scenario) (s : Snapshot) (bs : List Block) (old new : O) : Type 0 where
    pub asked : wanted new ≡ wanted old
    pub noted : List PricedCycle
    pub grown : cycles new ≡ cycles old ++ noted
    pub told : AreTold (IsPricedAs gives) (wanted old) t s (pricer old) bs noted (pricer new)

  abbrev pub saw : Scenario → Snapshot → Block → O → O → Type 0
  saw t s b old new = IsNoted gives (instance_at t s) (printed b) (wanted old) (wanted new) (pricer old) (pricer new) (cycles old) (cycles new)

  pub all_noted : (t : Scenario) (s : Snapshot) (bs : List Block) (old new : O) → Observed saw t s bs old new → AreNoted t s bs old new
  all_noted t s [] old new seen = record {
    asked = ap wanted seen;
    noted = [];
    grown = ap cycles seen ∙ sym (append-nil (cycles old));
    told = (refl, ap pricer seen);
  }
  all_noted t s (b ∷ bs) old new seen =
      let first = seen.1.0 in
      let rest = all_noted t (next t s b) bs seen.0 new seen.1.1 in
      record {
        asked = rest.asked ∙ first.wanted;
        noted = first.own ++ rest.noted;
        grown = rest.grown ∙ ap (λ cs. cs ++ rest.noted) first.grown ∙ append_assoc (cycles old) first.own rest.noted;
        told = (
          pricer seen.0,
          first.own,
          rest.noted,
          refl,
          first.told,
          subst (λ w. AreTold (IsPricedAs gives) w t (next t s b) (pricer seen.0) bs rest.noted (pricer new)) first.wanted rest.told,
        );
      }

-- no lawful allotment of these cycles' instances is worth more than their bounds
abbrev pub AllBound : Scenario → Snapshot → List Block → Type 0
AllBound t s [] = Unit {0}
AllBound t s (b ∷ bs) = BoundsEveryLawful (instance_at t s) b.bound × AllBound t (next t s b) bs

module _ {P : Type 0} (gives : P → Space → ℕ → ℕ → Option Given → P → Type 0) (t : Scenario) where
  told_bounded : (w : Bool) (old : P) (i : Space) (p : Printed) (cs : List PricedCycle) (new : P) → BoundsEveryLawful i p.bound → IsToldAs (IsPricedAs gives) w old i p cs new →
      IsToldAs (IsBounded gives) w old i p cs new
  told_bounded true old i p cs new bound told = (told.0, told.1, record { priced = told.2; bounds = told.2.bounds bound })
  told_bounded false old i p cs new bound told = told

  pub all_bounded : (w : Wanted) (s : Snapshot) (old : P) (bs : List Block) (cs : List PricedCycle) (new : P) → AllBound t s bs → AreTold (IsPricedAs gives) w t s old bs cs new →
      AreTold (IsBounded gives) w t s old bs cs new
  all_bounded w s old [] cs new bounds told = told
  all_bounded w s old (b ∷ bs) cs new bounds told = (
    told.0,
    told.1,
    told.2,
    told.3,
    told_bounded (is_wanted w b.number) old (instance_at t s) (printed b) told.1 told.0 bounds.0 told.4,
    all_bounded w (next t s b) told.0 bs told.2 new bounds.1 told.5,
  )

module _ (t : Scenario) where
  pub bound_last : (s : Snapshot) (bs : List Block) (b : Block) → AllBound t s bs → BoundsEveryLawful (instance_at t (behind t s bs)) b.bound → AllBound t s (bs ++ b ∷ [])
  bound_last s [] b bounds last = (last, tt)
  bound_last s (c ∷ bs) b bounds last = (bounds.0, bound_last (next t s c) bs b bounds.1 last)

-- what is noted of one cycle
module _ {P : Type 0} (gives : P → Space → ℕ → ℕ → Option Given → P → Type 0) (i : Space) (p : Printed) (w : Wanted) where
  pub noted_not : (pricer : P) (cs : List PricedCycle) → is_wanted w p.number ≡ false → IsNoted gives i p w w pricer pricer cs cs
  noted_not pricer cs not = record {
    wanted = refl;
    own = [];
    grown = sym (append-nil cs);
    told = subst (λ b. IsToldAs (IsPricedAs gives) b pricer i p [] pricer) (sym not) (refl, refl);
  }

  pub noted_one : (before behind : P) (old new : List PricedCycle) (c : PricedCycle) → is_wanted w p.number ≡ true → new ≡ old ++ c ∷ [] → IsPricedAs gives before i p c behind →
      IsNoted gives i p w w before behind old new
  noted_one before behind old new c asked grown priced = record {
    wanted = refl;
    own = c ∷ [];
    grown = grown;
    told = subst (λ b. IsToldAs (IsPricedAs gives) b before i p (c ∷ []) behind) (sym asked) (c, refl, priced);
  }
