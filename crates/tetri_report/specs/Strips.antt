-- What the lines of a report tell, one after another, where no certificate is kept.
use Rattle.std.specs.Prelude.{◌≡◌, ℕ, ◌+◌, List, [], ◌∷◌, map, false, Option, Some, None, Result, Ok, Err}
use Rattle.tetri_cert.specs.declared.certificate.Certificate.{Certificate}
use Rattle.tetri_cert.specs.declared.certificate.Certificate.TheVariants.{Tops}
use Rattle.tetri_cert.specs.declared.marks.Mark.{Mark}
use Rattle.tetri_io.specs.Lines.{lines_from}
use Rattle.tetri_trace.specs.Scenario.{Scenario}
use Rattle.tetri_report.specs.Answers.{Answers}
use Rattle.tetri_report.specs.Block.{Block, bare_block, certified, headed}
use Rattle.tetri_report.specs.Line.{line_in}
use Rattle.tetri_report.specs.Reading.{Reading, behind_line, block_before, end_answer, fitting, is_certified, opened, unless_refused, with_node}
use Rattle.tetri_report.specs.declared.fault.ReportFault.{ReportFault}
use Rattle.tetri_report.specs.declared.cycle.Summary.{Summary}
use Rattle.tetri_report.specs.declared.line.ReportLine.{ReportLine}
use Rattle.tetri_report.specs.declared.line.ReportLine.TheVariants as lines
use Rattle.tetri_report.specs.declared.strips.Told.{Told}
use Rattle.tetri_report.specs.declared.strips.Told.TheVariants as told
use Rattle.tetri_base.specs.ResultSteps.{◌>>=◌}

-- What a line tells: nothing by itself, the numbers of a `tops` line, a node of a tree, or the block that it ends, which has no
-- certificate.
pub data Telling : Type 0 where
  more : Telling
  tops : ℕ → ℕ → Telling
  node : Mark → Telling
  ended : Block → Telling

-- what was told as plain data
abbrev pub telling : Told → Telling
telling told.More = more
telling (told.Tops columns rows) = tops columns rows
telling (told.Node mark) = node mark
telling (told.Block head) = ended (headed head (Tops 0 0))

-- the reading without the certificate of its block
abbrev pub bare : Reading → Reading
bare r = record r { block = bare_block r.block }

-- the reading with this certificate of its block
abbrev pub certified_reading : Reading → Certificate → Reading
certified_reading r c = record r { block = certified r.block c }

abbrev pub ended_or_more : Option Block → Telling
ended_or_more None = more
ended_or_more (Some b) = ended (bare_block b)

-- what a line tells that may stand here
abbrev pub told_by : Reading → ReportLine → Telling
told_by r (lines.Tops columns rows) = tops columns rows
told_by r (lines.Node mark) = node mark
told_by r line = ended_or_more (block_before r line)

abbrev pub telling_of : Reading → Option ReportLine → Result Telling ℕ
telling_of r None = Err (r.lines + 1)
telling_of r (Some line) = Ok (told_by r line)

-- what one line more tells, or the number of the first line that is none
abbrev pub told_answer : Scenario → Reading → List ℕ → Result Telling ℕ
told_answer t r line = unless_refused r.fault (λ n. Err n) (telling_of r (fitting r.stage (line_in t line)))

-- what is read so far behind that line
abbrev pub strip_behind : Scenario → Reading → List ℕ → Reading
strip_behind t r line = bare (behind_line t r line)

abbrev pub AnswersTold : Result Told ReportFault → Result Telling ℕ → Type 0
AnswersTold = Answers telling

-- the certificate behind a line that told this: a block begins with that of no lines
abbrev pub certificate_with : Certificate → Telling → Certificate
certificate_with c more = c
certificate_with c (tops columns rows) = Tops columns rows
certificate_with c (node mark) = with_node c mark
certificate_with c (ended b) = Tops 0 0

-- the block that a line ended, if it ended one, with the certificate that was told before
abbrev pub block_told : Certificate → Telling → Option Block
block_told c (ended b) = Some (certified b c)
block_told c told = None

-- what a line answers where certificates are kept
abbrev pub answer_told : Certificate → Result Telling ℕ → Result (Option Block) ℕ
answer_told c answer = answer >>= λ x. Ok (block_told c x)

-- No line of the block's certificate was read, or one stands before this place.
abbrev pub BeginsBare : Reading → Type 0
BeginsBare r = is_certified r.stage ≡ false → r.block.certificate ≡ Tops 0 0

-- the blocks of a report that tells this, where a certificate was begun: each has the certificate that was told since it began
abbrev pub blocks_told : Certificate → List Telling → List Block
blocks_told c [] = []
blocks_told c (ended b ∷ rest) = certified b c ∷ blocks_told (Tops 0 0) rest
blocks_told c (told ∷ rest) = blocks_told (certificate_with c told) rest

-- what further lines tell, and the summary
abbrev pub told_from : Scenario → Reading → List (List ℕ) → Result (List Telling × Summary) ℕ
told_from t r [] = end_answer r >>= λ s. Ok ([], s)
told_from t r (line ∷ rest) = told_answer t r line >>= λ x. told_from t (strip_behind t r line) rest >>= λ y. Ok (x ∷ y.0, y.1)

-- what the lines of a content tell, and the summary, or the number of the first line that is none
abbrev pub told_in : Scenario → List ℕ → Result (List Telling × Summary) ℕ
told_in t bytes = told_from t opened (map (λ l. l.0) (lines_from 0 bytes))

-- the report that lines tell, where a certificate was begun before them
abbrev pub report_told : Certificate → Result (List Telling × Summary) ℕ → Result (List Block × Summary) ℕ
report_told c answer = answer >>= λ x. Ok (blocks_told c x.0, x.1)
