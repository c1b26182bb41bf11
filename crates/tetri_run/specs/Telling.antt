-- The cycles of a run with their blocks, and how they are told.
use Rattle.std.specs.Prelude.{◌≡◌, ℕ, List, []}
use Rattle.tetri_cert.specs.declared.plan_mark.PlanMark.{PlanMark}
use Rattle.tetri_cert.specs.declared.plan_mark.PlanMark.TheVariants.{Optimal, Spent, Wide}
use Rattle.tetri_commands.specs.Tightened.{IsTightText}
use Rattle.tetri_cycles.specs.Planning.{Kind}
use Rattle.tetri_report.specs.Block.{Block}
use Rattle.tetri_report.specs.Text.{cycle_text}
use Rattle.tetri_space.specs.Lawful.{IsLawful}
use Rattle.tetri_space.specs.Space.{Space}
use Rattle.tetri_space.specs.Total.{total_in}
use Rattle.tetri_state.specs.Planning.{instance_at}
use Rattle.tetri_trace.specs.Scenario.{Scenario}
use Rattle.tetri_run.specs.declared.telling.Telling.{Telling}
use Rattle.tetri_run.specs.declared.telling.Telling.TheVariants.{Report, Tight, Untold}

-- The text tells what cuts make of the bound of a cycle with this instance: its value is attained
-- by its grants, which are lawful, and no lawful allotment is worth more than the tightened bound.
pub record IsToldTight (i : Space) (b : Block) (text : List ℕ) : Type 0 where
  pub lines : IsTightText i b.number b.value b.bound b.certificate text
  pub lawful : IsLawful i b.grants
  pub attained : total_in i b.grants ≡ b.value

-- The text tells of a cycle with this instance: it is its block of the report, or tells what cuts
-- make of its bound, or is empty.
abbrev pub IsTold : Telling → Scenario → Space → Block → List ℕ → Type 0
IsTold Report t i b text = text ≡ cycle_text t b
IsTold Tight t i b text = IsToldTight i b text
IsTold Untold t i b text = text ≡ []

-- 1 where the plan is optimal, else 0
abbrev pub optimal_count : PlanMark → ℕ
optimal_count Optimal = 1
optimal_count Spent = 0
optimal_count Wide = 0

-- cycles with their blocks, told so
abbrev pub block_cycles : Kind Telling
block_cycles = record {
  Cycle = Block;
  grants = λ b. b.grants;
  optimal = λ b. optimal_count b.mark;
  Tells = λ telling t s b text. IsTold telling t (instance_at t s) b text;
}
