-- What one cycle of a run says.
use Rattle.std.specs.Prelude.{◌≡◌, List, ℕ, All, AllPairs, map}
use Rattle.tetri_strl.specs.declared.grants.Grant.{Grant}
use Rattle.tetri_claims.specs.Certified.{IsCertified}
use Rattle.tetri_claims.specs.Good.{BoundsEveryLawful, IsHonest}
use Rattle.tetri_report.specs.Block.{Block}
use Rattle.tetri_report.specs.BlockLines.{occurrences_in}
use Rattle.tetri_judge.specs.PlanOf.{planned}
use Rattle.tetri_report.specs.Printable.{IsInRange}
use Rattle.tetri_plan.specs.Chosen.{IsChosen}
use Rattle.tetri_plan.specs.Plans.{IsPrintableTree}
use Rattle.tetri_space.specs.GrantOrder.{ComesBefore}
use Rattle.tetri_space.specs.Lawful.{IsLawful}
use Rattle.tetri_space.specs.Space.{Space}
use Rattle.tetri_space.specs.Total.{total_in}
use Rattle.tetri_state.specs.Begin.{occurring}
use Rattle.tetri_state.specs.Launch.{start_of, launched_in}
use Rattle.tetri_state.specs.Planning.{IsCarry, instance_at}
use Rattle.tetri_state.specs.Snapshot.{Snapshot}
use Rattle.tetri_trace.specs.Scenario.{Scenario}

-- The plan of a cycle is honest for this instance, worth at least what is carried over, and
-- certified for this budget; each grant is told with its leaf's start, and exactly the launched
-- jobs are listed.
pub record IsPlanFor (i : Space) (budget : ℕ) (carry : List Grant) (b : Block) : Type 0 where
  pub honest : IsHonest i (total_in i carry) (planned b)
  pub certified : IsCertified i budget (planned b)
  pub starts : b.starts ≡ map (start_of i) b.grants
  pub launched : b.launched ≡ launched_in i b.grants

-- The cycle that begins in this state: it has the number of the slot, tells what happened, and has
-- a plan for what is pending and carried over then.
pub record IsCycle (t : Scenario) (s : Snapshot) (b : Block) : Type 0 where
  pub number : b.number ≡ s.now
  pub happened : occurrences_in b ≡ occurring t s
  pub carry : List Grant
  pub carried : IsCarry (instance_at t s) s.plan carry
  pub plan : IsPlanFor (instance_at t s) t.header.budget carry b

-- no lawful allotment is worth more than the bound of the cycle that begins in this state
abbrev pub IsBoundedCycle : Scenario → Snapshot → Block → Type 0
IsBoundedCycle t s b = BoundsEveryLawful (instance_at t s) b.bound

-- The cycle that this planner plans, where lists of grants are given that may be given of its
-- instance: its plan is the chosen one for what is carried over, these lists, which are lawful, and
-- the budget of the trace, with its grants by job and leaf; its certificate may be printed, and its
-- numbers are within the ranges of their lines.
pub record IsPlannedCycle (MayBeGiven : Space → List (List Grant)
    → Type 0) (t : Scenario) (s : Snapshot) (b : Block) : Type 0 where
  pub cycle : IsCycle t s b
  pub bounded : IsBoundedCycle t s b
  pub given : List (List Grant)
  pub may : MayBeGiven (instance_at t s) given
  pub lawful : All (IsLawful (instance_at t s)) given
  pub chosen : IsChosen (instance_at t s) cycle.carry given t.header.budget (planned b)
  pub ordered : AllPairs ComesBefore b.grants
  pub printable : IsPrintableTree b.certificate
  pub in_range : IsInRange b
