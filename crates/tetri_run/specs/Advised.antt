-- What advisors bring about in a run.
use Rattle.std.specs.Prelude.{◌≡◌, ◌≤◌, ℕ, List, [], All, Bool, length, map}
use Rattle.tetri_algebra.specs.Counts.{Rose}
use Rattle.tetri_strl.specs.declared.grants.Grant.{Grant}
use Rattle.tetri_advice.specs.Consulted.{Consulted}
use Rattle.tetri_advice.specs.Creeds.{greedy_list}
use Rattle.tetri_advice.specs.Heard.{Heard}
use Rattle.tetri_advice.specs.Seat.{AllTell, Seat, creeds_of}
use Rattle.tetri_advice.specs.declared.creed.Creed.{Creed}
use Rattle.tetri_cert.specs.declared.certificate.Certificate.{Certificate}
use Rattle.tetri_plan.specs.Advised.{IsWorthAtMost}
use Rattle.tetri_plan.specs.Chosen.{kept}
use Rattle.tetri_plan.specs.Plans.{HasNoWhole}
use Rattle.tetri_report.specs.Block.{Block}
use Rattle.tetri_space.specs.Space.{Space}
use Rattle.tetri_space.specs.Total.{total_in}
use Rattle.tetri_state.specs.Snapshot.{Snapshot}
use Rattle.tetri_trace.specs.Scenario.{Scenario}
use Rattle.tetri_cycles.specs.Planning.{Planning}
use Rattle.tetri_run.specs.Cycle.{IsPlannedCycle}
use Rattle.tetri_run.specs.Run.{IsPlannedRun, IsRunOf}
use Rattle.tetri_run.specs.Telling.{block_cycles}
use Rattle.tetri_run.specs.declared.telling.Telling.{Telling}
use Rattle.tetri_state.specs.Planning.{instance_at}

-- These lists were given of the instance where a panel was asked once and then taught: the advisors
-- that sat and the panel's count of misses before it, and those afterwards.
pub record IsAdvice (sat : List Seat) (before : ℕ) (sits : List Seat) (now : ℕ) (i : Space)
    (given : List (List Grant)) : Type 0 where
  pub heard : List Bool
  pub consulted : Consulted i sat before heard given sits now

-- the lists of these creeds are given, in this order, and nothing else
abbrev pub AreListsOf : List Creed → Space → List (List Grant) → Type 0
AreListsOf cs i given = given ≡ map (λ c. greedy_list c i) cs

-- The run with the lists of these creeds: there is no other one of its length.
pub record IsOnlyRun (cs : List Creed) (t : Scenario) (past : List Block) : Type 0 where
  pub run : IsPlannedRun (AreListsOf cs) t past
  pub only : (others : List Block) → IsPlannedRun (AreListsOf cs) t others
      → length others ≡ length past → others ≡ past

-- the cycle of slot 0 is worth no less than what each advisor says of its instance, where that is
-- lawful
abbrev pub IsWorthFirst : List Seat → Scenario → Snapshot → Block → Type 0
IsWorthFirst sat t s b = s.now ≡ 0 → All (IsWorthAtMost (instance_at t s) b.value) sat

-- a cycle is worth no less than the list of each creed
abbrev pub IsWorthCreeds : List Creed → Scenario → Snapshot → Block → Type 0
IsWorthCreeds cs t s b = All (λ c. total_in (instance_at t s) (greedy_list c (instance_at t s))
    ≤ b.value) cs

-- The worth with which the search of a cycle begins, where this is carried over and these lists are
-- given: no less than each of them is worth, and no more than the value of the cycle's plan; where
-- its tree has no mark of a whole point, as beside tops, it is the value. Where no list is given it
-- is what is carried over.
pub record BeginsWithin (i : Space) (carry : List Grant) (given : List (List Grant)) (value : ℕ)
    (certificate : Certificate) : Type 0 where
  pub carried : total_in i carry ≤ total_in i (kept i carry given)
  pub each : All (λ g. total_in i g ≤ total_in i (kept i carry given)) given
  pub most : total_in i (kept i carry given) ≤ value
  pub no_whole : HasNoWhole certificate → total_in i (kept i carry given) ≡ value
  pub alone : given ≡ [] → total_in i (kept i carry given) ≡ total_in i carry

-- A run that this planner plans with a panel: the advisors that sat as it began, and the panel's
-- count of misses then and now. Where nobody was missed, its first cycle is worth no less than what
-- each advisor said of it as the run began, and each cycle no less than the list of each creed that
-- is told; and where all tell a creed besides, it is the only run with the lists of these creeds.
-- Where nobody sits, it is the only run with no list.
pub record IsAdvisedRun (sat : List Seat) (before now : ℕ) (t : Scenario)
    (past : List Block) : Type 0 where
  pub run : IsPlannedRun (Heard sat before now) t past
  pub first : (Rose before now → ⊥) → IsRunOf (IsWorthFirst sat) t past
  pub each : (Rose before now → ⊥) → IsRunOf (IsWorthCreeds (creeds_of sat)) t past
  pub exact : AllTell sat → (Rose before now → ⊥) → IsOnlyRun (creeds_of sat) t past
  pub alone : sat ≡ [] → IsOnlyRun [] t past

-- How a panel plans: the lists are given of which it was asked once, and its creeds stay.
abbrev pub by_panel : {Panel : Type 0} → (Panel → List Seat) → (Panel → ℕ) → Planning Panel Telling
by_panel sat missed = record {
  kind = block_cycles;
  Plans = λ before now t s b. IsPlannedCycle
      (IsAdvice (sat before) (missed before) (sat now) (missed now)) t s b;
  Follows = λ before now. (creeds_of (sat now) ≡ creeds_of (sat before))
      × (missed before ≤ missed now);
}
