-- What is wrong with a cycle of a report.
use Rattle.std.specs.Prelude.{◌≡◌, ℕ, List, map, Option, Some, None}
use Rattle.tetri_strl.specs.declared.grants.Grant.{Grant}
use Rattle.tetri_judge.specs.Verdict.{IsFirstFailed, Passes, Test}
use Rattle.tetri_judge.specs.declared.verdict.Verdict.{Verdict}
use Rattle.tetri_judge.specs.declared.verdict.Verdict.TheVariants as verdicts
use Rattle.tetri_report.specs.Block.{Block}
use Rattle.tetri_report.specs.BlockLines.{block_lines}
use Rattle.tetri_report.specs.Differences.{DifferFirstAt, corrected}
use Rattle.tetri_judge.specs.Places.{place_of}
use Rattle.tetri_judge.specs.PlanOf.{planned}
use Rattle.tetri_space.specs.Total.{total_in}
use Rattle.tetri_state.specs.Begin.{occurring}
use Rattle.tetri_state.specs.Launch.{launched_in, start_of}
use Rattle.tetri_state.specs.Planning.{IsCarry, instance_at}
use Rattle.tetri_state.specs.Snapshot.{Snapshot}
use Rattle.tetri_trace.specs.Scenario.{Scenario}
use Rattle.tetri_run.specs.declared.why.Why.{Why}
use Rattle.tetri_run.specs.declared.why.Why.TheVariants as whys

-- a verdict on a plan as a cause, unless memory ran out
abbrev pub why_of : Verdict → Option Why
why_of verdicts.NoMemory = None
why_of failed = Some (whys.Plan failed)

-- the cycle as it has to be in this state, with its own plan
abbrev pub corrected_at : Scenario → Snapshot → Block → Block
corrected_at t s b = corrected b s.now (occurring t s) (map (start_of (instance_at t s)) b.grants)
    (launched_in (instance_at t s) b.grants)

-- The cycle, which begins in this state, fails a test, which refuses the line at this place,
-- counted from its first one. First come the tests of its plan. Then its lines are held against
-- those that the state and the plan make: the first that differs is refused, or the one that stands
-- where a line is missing, which may be the line behind the cycle.
pub data IsFaulty (t : Scenario) (s : Snapshot) (b : Block) : ℕ → Why → Type 0 where
  planned_badly : (carry : List Grant) (v : Verdict) (why : Why)
      → IsCarry (instance_at t s) s.plan carry
      → IsFirstFailed (instance_at t s) (total_in (instance_at t s) carry) t.header.budget
      (planned b) v → why_of v ≡ Some why
      → IsFaulty t s b (place_of b v) why
  told_badly : (carry : List Grant) (place : ℕ) → IsCarry (instance_at t s) s.plan carry
      → ((test : Test)
      → Passes (instance_at t s) (total_in (instance_at t s) carry) t.header.budget
      (planned b) test)
      → DifferFirstAt (block_lines b) (block_lines (corrected_at t s b)) place
      → IsFaulty t s b place whys.WrongEvents
