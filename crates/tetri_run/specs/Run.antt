-- A run: one cycle a slot, from the opening state on. Lists of cycles have the last one first.
use Rattle.std.specs.Prelude.{◌⊎◌, Contains, ℕ, List, [], ◌∷◌, ◌++◌, map}
use Rattle.tetri_space.specs.Space.{Space}
use Rattle.tetri_strl.specs.declared.grants.Grant.{Grant}
use Rattle.tetri_cycles.specs.Cycles.{AreCycles, optimal_in, state_behind_cycles, summary_of_cycles, worth_of_cycles}
use Rattle.tetri_report.specs.Block.{Block}
use Rattle.tetri_report.specs.Text.{cycle_text, summary_text}
use Rattle.tetri_report.specs.declared.cycle.Summary.{Summary}
use Rattle.tetri_state.specs.Begin.{named}
use Rattle.tetri_state.specs.Pieces.{IsSameRun}
use Rattle.tetri_state.specs.declared.pieces.Piece.{Piece}
use Rattle.tetri_state.specs.Snapshot.{Snapshot}
use Rattle.tetri_trace.specs.Scenario.{Scenario}
use Rattle.tetri_run.specs.Telling.{block_cycles}
use Rattle.tetri_run.specs.Cycle.{IsBoundedCycle, IsCycle, IsPlannedCycle}

abbrev pub plans_of : List Block → List (List Grant)
plans_of past = map (λ b. b.grants) past

-- the state in which the next cycle begins
abbrev pub state_behind : Scenario → List Block → Snapshot
state_behind = state_behind_cycles block_cycles

-- each of the cycles begins before the end of the trace, and is such a cycle in the state that the
-- earlier ones leave
abbrev pub IsRunOf : (Scenario → Snapshot → Block → Type 0) → Scenario → List Block → Type 0
IsRunOf = AreCycles block_cycles

-- a run, whoever planned it
abbrev pub IsRun : Scenario → List Block → Type 0
IsRun = IsRunOf IsCycle

-- no lawful allotment of any of these cycles' instances is worth more than the cycle's bound
abbrev pub BoundsHold : Scenario → List Block → Type 0
BoundsHold = IsRunOf IsBoundedCycle

-- Behind one cycle more the piece still runs, on the same nodes, or the cycle tells that the piece
-- ended, or that its job was cancelled or failed.
abbrev pub RunsOnBehind : Scenario → List Block → Block → Piece → Type 0
RunsOnBehind t past b p =
    ((q : Piece) × Contains (state_behind t (b ∷ past)).pieces q × IsSameRun p q)
    ⊎ (Contains b.ended (named p) ⊎ (Contains b.cancelled p.job ⊎ Contains b.failed p.job))

-- a run that this planner plans, where lists are given in each cycle that may be given of its
-- instance
abbrev pub IsPlannedRun : (Space → List (List Grant) → Type 0) → Scenario → List Block → Type 0
IsPlannedRun MayBeGiven = IsRunOf (IsPlannedCycle MayBeGiven)

-- all lists may be given
abbrev pub AnyLists : Space → List (List Grant) → Type 0
AnyLists i given = Unit {0}

-- how many cycles have an optimal plan
abbrev pub optimal_cycles : List Block → ℕ
optimal_cycles = optimal_in block_cycles

-- what the launched jobs were worth at their launch
abbrev pub worth_of_run : Scenario → List Block → ℕ
worth_of_run = worth_of_cycles block_cycles

-- the run in numbers
abbrev pub summary_of : Scenario → List Block → Summary
summary_of = summary_of_cycles block_cycles

-- the cycles, the first one first
abbrev pub in_order : List Block → List Block
in_order [] = []
in_order (b ∷ past) = in_order past ++ b ∷ []

-- the lines of all cycles
abbrev pub cycles_text : Scenario → List Block → List ℕ
cycles_text t [] = []
cycles_text t (b ∷ past) = cycles_text t past ++ cycle_text t b

-- the report of a run
abbrev pub report_text : Scenario → List Block → List ℕ
report_text t past = cycles_text t past ++ summary_text (summary_of t past)
