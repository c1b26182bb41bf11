use Rattle.std.proofs.Common.{map}
use Rattle.tetri_io.specs.Lines.{lines_from}
use Rattle.tetri_report.specs.Reading.{opened}
use Rattle.tetri_report.proofs.StripLemmas.{begins_bare_behind, certificate_behind, opened_begins_bare, report_as_told}
use Rattle.tetri_report.proofs.laws.certificates_are_told.Goals as goal

pub returns-clause-line : goal.returns-clause-line
returns-clause-line c = λ t r line told begins answer. certificate_behind t r line told begins answer

pub returns-clause-kept : goal.returns-clause-kept
returns-clause-kept c = λ t r line begins. begins_bare_behind t r line begins

pub returns-clause-report : goal.returns-clause-report
returns-clause-report c = λ t bytes. report_as_told t opened (map (λ l. l.0) (lines_from 0 bytes)) opened_begins_bare
