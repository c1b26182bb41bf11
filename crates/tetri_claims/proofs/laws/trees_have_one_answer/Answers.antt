use Rattle.tetri_claims.proofs.CertifiedLemmas.{one_answer}
use Rattle.tetri_claims.proofs.laws.trees_have_one_answer.Goals as goal

pub returns : goal.returns
returns c = one_answer
