use Rattle.tetri_report.proofs.ReadReports.{report_back}
use Rattle.tetri_report.proofs.laws.printed_reports_read_back.Goals as goal

pub returns : goal.returns
returns c = λ t bs s sound good range small. report_back t sound bs s good range small
