-- What reading a line, and the end of a report, answers.
use Rattle.std.specs.Prelude.{◌≡◌, ℕ, Option, option_map, Result, Ok, Err}
use Rattle.tetri_report.specs.Block.{Block, block}
use Rattle.tetri_report.specs.Reading.{Reading}
use Rattle.tetri_report.specs.declared.cycle.Cycle.{Cycle}
use Rattle.tetri_report.specs.declared.cycle.Summary.{Summary}
use Rattle.tetri_report.specs.declared.fault.ReportFault.{ReportFault}
use Rattle.tetri_report.specs.declared.fault.ReportFault.TheVariants.{Malformed, NoMemory}

-- What was returned, seen by view, is what the definition answers, unless memory ran out.
abbrev pub Answers : {X Y : Type 0} → (X → Y) → Result X ReportFault → Result Y ℕ → Type 0
Answers view (Ok x) answer = answer ≡ Ok (view x)
Answers view (Err (Malformed line)) answer = answer ≡ Err line
Answers view (Err NoMemory) answer = Unit {0}

abbrev pub AnswersLine : Result (Option Cycle) ReportFault → Result (Option Block) ℕ → Type 0
AnswersLine = Answers (λ o. option_map block o)

-- What the end of a report answers is what the definition does: it takes no memory.
abbrev pub AnswersEnd : Result Summary ReportFault → Result Summary ℕ → Type 0
AnswersEnd (Ok summary) answer = answer ≡ Ok summary
AnswersEnd (Err (Malformed line)) answer = answer ≡ Err line
AnswersEnd (Err NoMemory) answer = ⊥

-- What is read so far afterwards: the same where memory ran out.
abbrev pub Leaves : {X : Type 0} → Result X ReportFault → Reading → Reading → Reading → Type 0
Leaves (Ok x) old behind new = new ≡ behind
Leaves (Err (Malformed line)) old behind new = new ≡ behind
Leaves (Err NoMemory) old behind new = new ≡ old
