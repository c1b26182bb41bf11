-- The instance of a cycle with a cost of delay.
use Rattle.std.specs.Prelude.{ℕ, Bool, false, List, get_or, if◌then◌else◌, map}
use Rattle.tetri_delay.specs.Charge.{charged}
use Rattle.tetri_delay.specs.Factors.{grain, times, waited}
use Rattle.tetri_delay.specs.declared.charge.Charge.{Charge}
use Rattle.tetri_delay.specs.declared.charging.Rates.{Rates}
use Rattle.tetri_space.specs.Space.{Bid, Space}
use Rattle.tetri_strl.specs.WellMade.{peak}
use Rattle.tetri_strl.specs.Worth.{greatest_of}

-- the greatest worth that a part of an expression of the instance may have
abbrev pub most_in : List Bid → ℕ
most_in bs = greatest_of (map (λ b. peak b.expr) bs)

-- whether a job's nodes are held for it
abbrev pub is_held : List Bool → ℕ → Bool
is_held held job = get_or held job false

-- `first` has by job the slot in which it was first seen, `held` whether its nodes are held for it
module _ (rates : Rates) (first : List ℕ) (held : List Bool) (now grain : ℕ) where
  -- by how much the worths of a job are multiplied: what a job offers whose nodes are held counts for nothing
  abbrev pub times_of : Bid → ℕ
  times_of b = if is_held held b.job then 0 else times grain rates.ageing (waited first now b.job) (peak b.expr)

  -- how the worths of a job are charged
  abbrev pub charge_of : Bid → Charge
  charge_of b = record { now = now; times = times_of b; density = rates.density }

  -- what a job offers, charged
  abbrev pub charged_bid : Bid → Bid
  charged_bid b = record { job = b.job; expr = charged (charge_of b) 1 b.expr }

-- the same instance but for the worths of leaves and barriers
abbrev pub charged_space : Rates → List ℕ → List Bool → Space → Space
charged_space rates first held s = record s { bids = map (charged_bid rates first held s.now (grain (most_in s.bids))) s.bids }
