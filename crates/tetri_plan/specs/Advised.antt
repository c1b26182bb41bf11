-- The plan of a cycle that asked a panel.
use Rattle.std.specs.Prelude.{◌≡◌, ◌≤◌, ℕ, List}
use Rattle.tetri_strl.specs.declared.grants.Grant.{Grant}
use Rattle.tetri_space.specs.Lawful.{IsLawful}
use Rattle.tetri_space.specs.Space.{Space}
use Rattle.tetri_space.specs.Total.{total_in}
use Rattle.tetri_advice.specs.Consulted.{Consulted}
use Rattle.tetri_advice.specs.Seat.{Seat}
use Rattle.tetri_plan.specs.Chosen.{IsChosen, kept}
use Rattle.tetri_plan.specs.Plans.{planned_of}
use Rattle.tetri_plan.specs.declared.planning.Plan.{Plan}

-- what the advisor says is worth no more than this, where it is lawful
abbrev pub IsWorthAtMost : Space → ℕ → Seat → Type 0
IsWorthAtMost s worth a = IsLawful s (a.says s) → total_in s (a.says s) ≤ worth

-- The plan of a cycle for what is carried over and the budget, with the advisors that sat and the
-- panel's count of misses before it and afterwards: the panel was asked once of the instance and
-- then taught, and the plan is the chosen one for what was given.
pub record IsAdvisedPlan (s : Space) (carry : List Grant) (budget : ℕ) (sat : List Seat)
    (before : ℕ) (sits : List Seat) (now : ℕ) (p : Plan) : Type 0 where
  pub given : List (List Grant)
  pub consulted : Consulted s sat before p.heard.items given sits now
  pub chosen : IsChosen s carry given budget (planned_of p)
  pub low : p.low ≡ total_in s (kept s carry given)
