-- What a plan says, and what makes it good.
use Rattle.std.specs.Prelude.{◌≡◌, ◌≤◌, ◌↔◌, ℕ, List}
use Rattle.tetri_strl.specs.declared.grants.Grant.{Grant}
use Rattle.tetri_cert.specs.declared.plan_mark.PlanMark.TheVariants.{Optimal}
use Rattle.tetri_space.specs.Lawful.{IsLawful}
use Rattle.tetri_space.specs.Space.{Space}
use Rattle.tetri_space.specs.Total.{total_in}
pub use Rattle.tetri_space.specs.Trimmed.{IsThriftyForAll}
use Rattle.tetri_claims.specs.Planned.{Planned}

-- no lawful allotment is worth more
abbrev pub BoundsEveryLawful : Space → ℕ → Type 0
BoundsEveryLawful s bound = (a : List Grant) → IsLawful s a → total_in s a ≤ bound

-- All that is asked of a plan but that its bound holds: the grants are lawful, thrifty and worth the value, which is at least `low`, and
-- `optimal` stands exactly where value and bound are equal.
pub record IsHonest (s : Space) (low : ℕ) (p : Planned) : Type 0 where
  pub lawful : IsLawful s p.grants
  pub thrifty : IsThriftyForAll s p.grants
  pub attained : total_in s p.grants ≡ p.value
  pub at_least : low ≤ p.value
  pub optimal : (p.mark ≡ Optimal) ↔ (p.value ≡ p.bound)

-- The plan is honest, and no lawful allotment is worth more than its bound.
pub record IsGood (s : Space) (low : ℕ) (p : Planned) : Type 0 where
  pub honest : IsHonest s low p
  pub bounded : BoundsEveryLawful s p.bound
