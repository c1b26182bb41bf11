use Rattle.tetri_report.proofs.StripLemmas.{bare_behind, line_as_told, told_bare}
use Rattle.tetri_report.proofs.laws.strips_read_as_blocks.Goals as goal

pub returns-clause-told : goal.returns-clause-told
returns-clause-told c = λ t r line. told_bare t r line

pub returns-clause-answer : goal.returns-clause-answer
returns-clause-answer c = λ t r line. line_as_told t r line

pub returns-clause-left : goal.returns-clause-left
returns-clause-left c = λ t r line. bare_behind t r line
