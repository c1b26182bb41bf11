use Rattle.tetri_cert.proofs.TextShort.{one_line, short}
use Rattle.tetri_cert.proofs.text.marks_are_short_lines.Goals as goal

pub returns-clause-one_line : goal.returns-clause-one_line
returns-clause-one_line c = one_line

pub returns-clause-short : goal.returns-clause-short
returns-clause-short c = short
