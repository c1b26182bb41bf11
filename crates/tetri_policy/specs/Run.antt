-- A run by a policy: its cycles, the first one first.
use Rattle.std.specs.Prelude.{◌≡◌, ℕ, List, [], ◌∷◌, length}
use Rattle.tetri_cert.specs.declared.plan_mark.PlanMark.TheVariants.{Wide}
use Rattle.tetri_cycles.specs.Observed.{IsRightCycle, Observed, behind, next}
use Rattle.tetri_report.specs.Block.{Block}
use Rattle.tetri_space.specs.Total.{tops_in}
use Rattle.tetri_state.specs.Planning.{instance_at}
use Rattle.tetri_state.specs.Snapshot.{Snapshot, opening_state}
use Rattle.tetri_trace.specs.Scenario.{Scenario}
use Rattle.tetri_policy.specs.Policies.{policy_grants}
use Rattle.tetri_policy.specs.declared.policy.Policy.{Policy}

-- The cycle that begins in this state, where a policy decides: it is right, and its grants are the policy's. A policy makes no bound of its
-- own: the cycle tells the tops of its jobs, which no lawful allotment exceeds, and that nothing was searched.
pub record IsPolicyCycle (p : Policy) (t : Scenario) (s : Snapshot) (b : Block) : Type 0 where
  pub right : IsRightCycle t s b
  pub grants : b.grants ≡ policy_grants p (instance_at t s)
  pub bound : b.bound ≡ tops_in (instance_at t s)
  pub mark : b.mark ≡ Wide
  pub unsearched : b.nodes ≡ 0

-- cycles of a policy from this state on
abbrev pub ArePolicyCycles : Policy → Scenario → Snapshot → List Block → Type 0
ArePolicyCycles p t s [] = Unit {0}
ArePolicyCycles p t s (b ∷ bs) = IsPolicyCycle p t s b × ArePolicyCycles p t (next t s b) bs

-- `saw` says what an observer makes of a cycle; `old` and `new` are the observer before and behind
module _ {O : Type 0} (saw : Scenario → Snapshot → Block → O → O → Type 0) (p : Policy) (t : Scenario) where
  -- a slot was run under a policy, and its cycle was shown
  pub record RanCycle (s now : Snapshot) (old new : O) : Type 0 where
    pub cycle : Block
    pub is : IsPolicyCycle p t s cycle
    pub state : now ≡ next t s cycle
    pub observed : saw t s cycle old new

  -- so many slots were run from the opening state on, and their cycles were shown in order
  pub record RanCycles (slots : ℕ) (now : Snapshot) (old new : O) : Type 0 where
    pub cycles : List Block
    pub run : ArePolicyCycles p t (opening_state t) cycles
    pub as_many : length cycles ≡ slots
    pub state : now ≡ behind t (opening_state t) cycles
    pub observed : Observed saw t (opening_state t) cycles old new

  -- the cycles of a whole run were shown in order
  pub record HasSeenRun (old new : O) : Type 0 where
    pub cycles : List Block
    pub run : ArePolicyCycles p t (opening_state t) cycles
    pub whole : length cycles ≡ t.header.until
    pub observed : Observed saw t (opening_state t) cycles old new
