use Rattle.tetri_cert.proofs.SameLemmas.{same_programs}
use Rattle.tetri_cert.proofs.laws.same_programs_answer_same.Goals as goal

pub returns : goal.returns
returns c = same_programs
