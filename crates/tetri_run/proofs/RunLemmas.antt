-- The states of runs are reached.
use Rattle.std.proofs.Common.{List, [], ◌∷◌, refl}
use Rattle.tetri_report.specs.Block.{Block}
use Rattle.tetri_state.specs.Begin.{begin}
use Rattle.tetri_state.specs.Reached.{ArePlans, IsReached, begun, between}
use Rattle.tetri_space.specs.Space.{Space}
use Rattle.tetri_strl.specs.declared.grants.Grant.{Grant}
use Rattle.tetri_trace.specs.Scenario.{Scenario}
use Rattle.tetri_run.specs.Run.{IsPlannedRun, IsRun, plans_of, state_behind}

pub run_plans : (t : Scenario) (past : List Block) → IsRun t past → ArePlans t (plans_of past)
run_plans t [] run = tt
run_plans t (b ∷ past) run = (run.0, record { lawful = run.1.plan.honest.lawful; thrifty = run.1.plan.honest.thrifty }, run_plans t past run.2)

-- what this planner plans is a run
pub run_of : (MayBeGiven : Space → List (List Grant) → Type 0) (t : Scenario) (past : List Block) → IsPlannedRun MayBeGiven t past → IsRun t past
run_of MayBeGiven t [] run = tt
run_of MayBeGiven t (b ∷ past) run = (run.0, run.1.cycle, run_of MayBeGiven t past run.2)

-- the states of a run are reached
pub run_reaches : (t : Scenario) (past : List Block) → IsRun t past → IsReached t between (state_behind t past)
run_reaches t past run = record { plans = plans_of past; are_plans = run_plans t past run; is = refl }

-- and so are those in which the slots of its cycles have begun
pub run_begins : (t : Scenario) (past : List Block) (b : Block) → IsRun t (b ∷ past) → IsReached t begun (begin t (state_behind t past))
run_begins t past b run = record { plans = plans_of past; are_plans = run_plans t past run.2; is = (run.0, refl) }
