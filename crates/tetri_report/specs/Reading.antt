-- What the lines of a report read as.
use Rattle.std.specs.Prelude.{ℕ, ◌+◌, ◌&&◌, ◌||◌, nat_le, List, [], ◌∷◌, ◌++◌, map, Bool, true, false, if◌then◌else◌, Option, Some, None, ok_or, Result, Ok, Err}
use Rattle.tetri_cert.specs.declared.plan_mark.PlanMark.TheVariants.{Wide}
use Rattle.tetri_cert.specs.declared.certificate.Certificate.{Certificate}
use Rattle.tetri_cert.specs.declared.certificate.Certificate.TheVariants.{Tops, Tree}
use Rattle.tetri_cert.specs.declared.marks.Mark.{Mark}
use Rattle.tetri_io.specs.Lines.{lines_from}
use Rattle.tetri_trace.specs.Scenario.{Scenario}
use Rattle.tetri_report.specs.Block.{Block}
use Rattle.tetri_report.specs.Line.{line_in}
use Rattle.tetri_report.specs.declared.cycle.Summary.{Summary}
use Rattle.tetri_report.specs.declared.line.PlanLine.{PlanLine}
use Rattle.tetri_report.specs.declared.line.ReportLine.{ReportLine}
use Rattle.tetri_report.specs.declared.line.ReportLine.TheVariants as lines
use Rattle.tetri_report.specs.declared.line.Stage.{Stage}
use Rattle.tetri_report.specs.declared.line.Stage.TheVariants as stages
use Rattle.tetri_base.specs.Lists.{with_first}
use Rattle.tetri_base.specs.ResultSteps.{◌>>=◌}

-- the block that has no lines but its first one
abbrev pub block_of : ℕ → Block
block_of number = record {
  number = number;
  ended = [];
  cancelled = [];
  failed = [];
  over = [];
  expired = [];
  value = 0;
  bound = 0;
  mark = Wide;
  nodes = 0;
  grants = [];
  starts = [];
  certificate = Tops 0 0;
  launched = [];
}

abbrev pub with_plan : Block → PlanLine → Block
with_plan b p = record b { value = p.value; bound = p.bound; mark = p.mark; nodes = p.nodes }

-- a certificate with one node more; the first one makes it a tree
abbrev pub with_node : Certificate → Mark → Certificate
with_node (Tops columns rows) mark = Tree (mark ∷ [])
with_node (Tree marks) mark = Tree (marks ++ mark ∷ [])

-- the block with one line more
abbrev pub with_line : Block → ReportLine → Block
with_line b (lines.Cycle number) = block_of number
with_line b (lines.End piece) = record b { ended = b.ended ++ piece ∷ [] }
with_line b (lines.Cancel job) = record b { cancelled = b.cancelled ++ job ∷ [] }
with_line b (lines.Fail job) = record b { failed = b.failed ++ job ∷ [] }
with_line b (lines.Over piece) = record b { over = b.over ++ piece ∷ [] }
with_line b (lines.Expire job) = record b { expired = b.expired ++ job ∷ [] }
with_line b (lines.Plan p) = with_plan b p
with_line b (lines.Grant grant start) = record b { grants = b.grants ++ grant ∷ []; starts = b.starts ++ start ∷ [] }
with_line b (lines.Tops columns rows) = record b { certificate = Tops columns rows }
with_line b (lines.Node mark) = record b { certificate = with_node b.certificate mark }
with_line b (lines.Launch job) = record b { launched = b.launched ++ job ∷ [] }
with_line b (lines.Summary s) = block_of 0

-- the stages of a report, numbered in their order
abbrev pub rank : Stage → ℕ
rank stages.Opened = 0
rank stages.Begun = 1
rank stages.Ends = 2
rank stages.Cancels = 3
rank stages.Fails = 4
rank stages.Overs = 5
rank stages.Expires = 6
rank stages.Planned = 7
rank stages.Tree = 8
rank stages.Certified = 9
rank stages.Closed = 10

-- the stage is one of those from the first to the last
abbrev pub is_from_to : Stage → Stage → Stage → Bool
is_from_to first last stage = nat_le (rank first) (rank stage) && nat_le (rank stage) (rank last)

-- the certificate has begun, and a block may end here
abbrev pub is_certified : Stage → Bool
is_certified = is_from_to stages.Tree stages.Certified

-- no block has begun, or it may end here
abbrev pub is_between : Stage → Bool
is_between stage = is_from_to stages.Opened stages.Opened stage || is_certified stage

-- The stages at which a line may follow. Events of one kind stand behind those of earlier kinds, then the plan with its grants, the
-- certificate, which is one `tops` line or the nodes of a tree, and the launches.
abbrev pub may_follow : Stage → ReportLine → Bool
may_follow stage (lines.Cycle number) = is_between stage
may_follow stage (lines.End piece) = is_from_to stages.Begun stages.Ends stage
may_follow stage (lines.Cancel job) = is_from_to stages.Begun stages.Cancels stage
may_follow stage (lines.Fail job) = is_from_to stages.Begun stages.Fails stage
may_follow stage (lines.Over piece) = is_from_to stages.Begun stages.Overs stage
may_follow stage (lines.Expire job) = is_from_to stages.Begun stages.Expires stage
may_follow stage (lines.Plan p) = is_from_to stages.Begun stages.Expires stage
may_follow stage (lines.Grant grant start) = is_from_to stages.Planned stages.Planned stage
may_follow stage (lines.Tops columns rows) = is_from_to stages.Planned stages.Planned stage
may_follow stage (lines.Node mark) = is_from_to stages.Planned stages.Tree stage
may_follow stage (lines.Launch job) = is_certified stage
may_follow stage (lines.Summary s) = is_between stage

-- the stage behind a line
abbrev pub stage_behind : ReportLine → Stage
stage_behind (lines.Cycle number) = stages.Begun
stage_behind (lines.End piece) = stages.Ends
stage_behind (lines.Cancel job) = stages.Cancels
stage_behind (lines.Fail job) = stages.Fails
stage_behind (lines.Over piece) = stages.Overs
stage_behind (lines.Expire job) = stages.Expires
stage_behind (lines.Plan p) = stages.Planned
stage_behind (lines.Grant grant start) = stages.Planned
stage_behind (lines.Tops columns rows) = stages.Certified
stage_behind (lines.Node mark) = stages.Tree
stage_behind (lines.Launch job) = stages.Certified
stage_behind (lines.Summary s) = stages.Closed

-- the report so far: how many lines were read, the last stage, the block that is not ended yet, the summary, and the number
-- of the first line that is none
pub record Reading : Type 0 where
  pub lines : ℕ
  pub stage : Stage
  pub block : Block
  pub summary : Option Summary
  pub fault : Option ℕ

-- no line was read
abbrev pub opened : Reading
opened = record { lines = 0; stage = stages.Opened; block = block_of 0; summary = None; fault = None }

abbrev pub summary_of : ReportLine → Option Summary
summary_of (lines.Summary s) = Some s
summary_of _ = None

abbrev pub with_read : Reading → ReportLine → Reading
with_read r line = record { lines = r.lines + 1; stage = stage_behind line; block = with_line r.block line; summary = summary_of line; fault = None }

abbrev pub stopped : Reading → Reading
stopped r = record r { fault = Some (r.lines + 1) }

-- whether the line stands behind a whole block
abbrev pub ends_block : ReportLine → Bool
ends_block (lines.Cycle number) = true
ends_block (lines.Summary s) = true
ends_block _ = false

-- the block that a line ends, where it follows one
abbrev pub block_before : Reading → ReportLine → Option Block
block_before r line = if ends_block line && is_certified r.stage then Some r.block else None

-- the line, where it may stand here
abbrev pub fitting : Stage → Option ReportLine → Option ReportLine
fitting stage None = None
fitting stage (Some line) = if may_follow stage line then Some line else None

abbrev pub answer_to : Reading → Option ReportLine → Result (Option Block) ℕ
answer_to r None = Err (r.lines + 1)
answer_to r (Some line) = Ok (block_before r line)

abbrev pub reading_behind : Reading → Option ReportLine → Reading
reading_behind r None = stopped r
reading_behind r (Some line) = with_read r line

-- one of two answers, by whether a line was refused before
abbrev pub unless_refused : {A : Type 0} → Option ℕ → (ℕ → A) → A → A
unless_refused None refused answer = answer
unless_refused (Some n) refused answer = refused n

-- what one line more answers: the block that it ends, or the number of the first line that is none
abbrev pub line_answer : Scenario → Reading → List ℕ → Result (Option Block) ℕ
line_answer t r line = unless_refused r.fault (λ n. Err n) (answer_to r (fitting r.stage (line_in t line)))

-- what is read so far behind that line
abbrev pub behind_line : Scenario → Reading → List ℕ → Reading
behind_line t r line = unless_refused r.fault (λ n. r) (reading_behind r (fitting r.stage (line_in t line)))

-- what the end answers: the summary, or the number of the first line that is none or is wanting
abbrev pub end_answer : Reading → Result Summary ℕ
end_answer r = unless_refused r.fault (λ n. Err n) (ok_or r.summary (r.lines + 1))

-- what further lines give, with a block in front where one was ended
abbrev pub onto_report : Option Block → Result (List Block × Summary) ℕ → Result (List Block × Summary) ℕ
onto_report o rest = rest >>= λ x. Ok (with_first o x.0, x.1)

-- the blocks and the summary that further lines make
abbrev pub report_from : Scenario → Reading → List (List ℕ) → Result (List Block × Summary) ℕ
report_from t r [] = end_answer r >>= λ s. Ok ([], s)
report_from t r (line ∷ rest) = line_answer t r line >>= λ o. onto_report o (report_from t (behind_line t r line) rest)

-- the blocks and the summary that the lines of a content are, or the number of the first line that is none
abbrev pub report_in : Scenario → List ℕ → Result (List Block × Summary) ℕ
report_in t bytes = report_from t opened (map (λ l. l.0) (lines_from 0 bytes))
