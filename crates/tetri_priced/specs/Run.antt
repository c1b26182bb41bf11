-- What is told of the cycles of a run.
use Rattle.std.specs.Prelude.{◌≡◌, ℕ, Bool, true, false, List, [], ◌∷◌, ◌++◌, Option}
use Rattle.tetri_claims.specs.Good.{BoundsEveryLawful}
use Rattle.tetri_cycles.specs.Observed.{next}
use Rattle.tetri_report.specs.Block.{Block}
use Rattle.tetri_space.specs.Space.{Space}
use Rattle.tetri_state.specs.Planning.{instance_at}
use Rattle.tetri_state.specs.Snapshot.{Snapshot}
use Rattle.tetri_trace.specs.Scenario.{Scenario}
use Rattle.tetri_priced.specs.Cycle.{Given, IsPriced}
use Rattle.tetri_priced.specs.declared.cycle.PricedCycle.{PricedCycle}
use Rattle.tetri_priced.specs.declared.cycle.Printed.{Printed}
use Rattle.tetri_priced.specs.Wanted.{is_wanted}
use Rattle.tetri_priced.specs.declared.wanted.Wanted.{Wanted}

-- the number, the value and the bound of a cycle
abbrev pub printed : Block → Printed
printed b = record { number = b.number; value = b.value; bound = b.bound }

-- `gives` says what a pricer may answer: the pricer before, the instance, the value and the bound of a cycle, the prices or none, and the
-- pricer behind. Lists of cycles have the first one first.
module _ {P : Type 0} (gives : P → Space → ℕ → ℕ → Option Given → P → Type 0) where
  -- this is what an answer of this pricer makes of a cycle, and so it stands behind its answer
  abbrev pub IsPricedAs : P → Space → Printed → PricedCycle → P → Type 0
  IsPricedAs old i p c new = IsPriced (λ g. gives old i p.value p.bound g new) i p c

  -- and no lawful allotment is worth more than the bound that it makes
  pub record IsBounded (old : P) (i : Space) (p : Printed) (c : PricedCycle) (new : P) : Type 0 where
    pub priced : IsPricedAs old i p c new
    pub bounds : BoundsEveryLawful i c.priced

-- `Tells` says what is told of a cycle that a pricer is asked about.
module _ {P : Type 0} (Tells : P → Space → Printed → PricedCycle → P → Type 0) where
  -- the pricer is asked about a cycle that is asked for, which is told, and not about another one
  abbrev pub IsToldAs : Bool → P → Space → Printed → List PricedCycle → P → Type 0
  IsToldAs true old i p cs new = (c : PricedCycle) × (cs ≡ c ∷ []) × Tells old i p c new
  IsToldAs false old i p cs new = (cs ≡ []) × (new ≡ old)

  -- this is told of the cycles from this state on
  abbrev pub AreTold : Wanted → Scenario → Snapshot → P → List Block → List PricedCycle → P → Type 0
  AreTold w t s old [] cs new = (cs ≡ []) × (new ≡ old)
  AreTold w t s old (b ∷ bs) cs new =
      (middle : P) × (own : List PricedCycle) × (rest : List PricedCycle) × (cs ≡ own ++ rest)
      × IsToldAs (is_wanted w b.number) old (instance_at t s) (printed b) own middle × AreTold w t (next t s b) middle bs rest new

-- Behind a cycle with this instance the same cycles are asked for, and what the pricer's answer makes of it stands behind what was told before.
module _ {P : Type 0} (gives : P → Space → ℕ → ℕ → Option Given → P → Type 0) where
  pub record IsNoted (i : Space) (p : Printed) (old_wanted new_wanted : Wanted) (old_pricer new_pricer : P) (old new : List PricedCycle) : Type 0 where
    pub wanted : new_wanted ≡ old_wanted
    pub own : List PricedCycle
    pub grown : new ≡ old ++ own
    pub told : IsToldAs (IsPricedAs gives) (is_wanted old_wanted p.number) old_pricer i p own new_pricer
