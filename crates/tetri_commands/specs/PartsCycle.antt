-- A cycle that is planned part by part.
use Rattle.std.specs.Prelude.{◌≡◌, ◌==◌, ℕ, if◌then◌else◌, List, [], All, map, sum}
use Rattle.tetri_base.specs.Lists.{has}
use Rattle.tetri_base.specs.Order.{in_order}
use Rattle.tetri_strl.specs.declared.grants.Grant.{Grant}
use Rattle.tetri_claims.specs.Good.{BoundsEveryLawful, IsGood, IsThriftyForAll}
use Rattle.tetri_claims.specs.Planned.{Planned}
use Rattle.tetri_plan.specs.Chosen.{IsChosen}
use Rattle.tetri_space.specs.GrantOrder.{comes_first}
use Rattle.tetri_space.specs.Lawful.{IsLawful}
use Rattle.tetri_space.specs.Space.{Space}
use Rattle.tetri_space.specs.Total.{total_in}
use Rattle.tetri_split.specs.Parts.{ArePartsOf, in_a_row}
use Rattle.tetri_split.specs.Restricted.{grants_to, restricted}
use Rattle.tetri_state.specs.Begin.{Occurrences, occurring}
use Rattle.tetri_state.specs.Launch.{launched_in, start_of}
use Rattle.tetri_state.specs.Planning.{IsCarry, instance_at}
use Rattle.tetri_state.specs.Snapshot.{Snapshot}
use Rattle.tetri_trace.specs.Scenario.{Scenario}

-- the jobs of a part, its plan, and the start of each of its grants
pub record PartPlan : Type 0 where
  pub jobs : List ℕ
  pub plan : Planned
  pub starts : List ℕ

-- the jobs of each part
abbrev pub jobs_by_part : List PartPlan → List (List ℕ)
jobs_by_part parts = map (λ p. p.jobs) parts

-- the grants of each part's plan
abbrev pub grants_by_part : List PartPlan → List (List Grant)
grants_by_part parts = map (λ p. p.plan.grants) parts

-- what the plans are worth together
abbrev pub value_of : List PartPlan → ℕ
value_of parts = sum (map (λ p. p.plan.value) parts)

-- the sum of the bounds
abbrev pub bound_of : List PartPlan → ℕ
bound_of parts = sum (map (λ p. p.plan.bound) parts)

-- 1 where these two are equal, else 0
abbrev pub optimal_count : List PartPlan → ℕ
optimal_count parts = if value_of parts == bound_of parts then 1 else 0

-- The plan of a part is good for the instance with the part's jobs alone, and chosen there for the carried grants of these jobs and the
-- budget, with nothing else given; each of its grants has its leaf's start.
pub record IsPlanOfPart (i : Space) (carry : List Grant) (budget : ℕ) (p : PartPlan) : Type 0 where
  pub good : IsGood (restricted (has p.jobs) i) (total_in (restricted (has p.jobs) i) (grants_to (has p.jobs) carry)) p.plan
  pub chosen : IsChosen (restricted (has p.jobs) i) (grants_to (has p.jobs) carry) [] budget p.plan
  pub starts : p.starts ≡ map (start_of i) p.plan.grants

-- The parts are those of the instance, and each has its plan; the grants of all parts are lawful together, thrifty and worth the sum of
-- the values, and no lawful allotment is worth more than the sum of the bounds.
pub record ArePlansByPart (i : Space) (carry : List Grant) (budget : ℕ) (parts : List PartPlan) (grants : List Grant) : Type 0 where
  pub are_parts : ArePartsOf i (jobs_by_part parts)
  pub plans : All (IsPlanOfPart i carry budget) parts
  pub joined : grants ≡ in_order comes_first (in_a_row (grants_by_part parts))
  pub lawful : IsLawful i grants
  pub thrifty : IsThriftyForAll i grants
  pub worth : total_in i grants ≡ value_of parts
  pub bounded : BoundsEveryLawful i (bound_of parts)

-- a cycle: its number, what happened, the plans of its parts, all their grants, and the jobs that are launched
pub record PartsCycle : Type 0 where
  pub number : ℕ
  pub happened : Occurrences
  pub parts : List PartPlan
  pub grants : List Grant
  pub launched : List ℕ

-- The cycle that begins in this state: it has the number of the slot, tells what happened, is planned part by part for what is pending
-- and carried over then, and lists exactly the jobs that its grants launch.
pub record IsPartsCycle (t : Scenario) (s : Snapshot) (c : PartsCycle) : Type 0 where
  pub number : c.number ≡ s.now
  pub happened : c.happened ≡ occurring t s
  pub carry : List Grant
  pub carried : IsCarry (instance_at t s) s.plan carry
  pub plans : ArePlansByPart (instance_at t s) carry t.header.budget c.parts c.grants
  pub launched : c.launched ≡ launched_in (instance_at t s) c.grants
