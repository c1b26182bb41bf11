use Rattle.tetri_report.proofs.ShortLines.{lines_short}
use Rattle.tetri_report.proofs.laws.printed_lines_are_short.Goals as goal

pub returns : goal.returns
returns c = λ t bs s sound good range small. lines_short t sound bs s good range small
