-- What holds of every chosen plan.
use Rattle.std.specs.Prelude.{◌≡◌, ℕ, List}
use Rattle.tetri_strl.specs.declared.grants.Grant.{Grant}
use Rattle.tetri_space.specs.Space.{Space}
use Rattle.tetri_claims.specs.Good.{IsHonest}
use Rattle.tetri_claims.specs.Planned.{Planned}
use Rattle.tetri_plan.specs.Chosen.{IsChosen}

-- honest plans that are chosen for the same are the same
abbrev pub ChosenPlansAreOne : Type 0
ChosenPlansAreOne = (s : Space) (low : ℕ) (carry : List Grant) (given : List (List Grant))
    (budget : ℕ) (p other : Planned) → IsHonest s low p → IsHonest s low other
    → IsChosen s carry given budget p → IsChosen s carry given budget other → p ≡ other
