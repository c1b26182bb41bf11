use Rattle.tetri_claims.proofs.ProgramLemmas.{programs_earn_little}
use Rattle.tetri_claims.proofs.laws.programs_earn_little.Goals as goal

pub returns : goal.returns
returns c = programs_earn_little
