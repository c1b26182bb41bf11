use Rattle.tetri_cert.proofs.TextBack.{reads_back, reads_no_other}
use Rattle.tetri_cert.proofs.text.marks_read_back.Goals as goal

pub returns-clause-back : goal.returns-clause-back
returns-clause-back c = reads_back

pub returns-clause-only : goal.returns-clause-only
returns-clause-only c = reads_no_other
