use Rattle.tetri_claims.proofs.CertifiedLemmas.{certificates_bound}
use Rattle.tetri_claims.proofs.laws.certificates_bound.Goals as goal

pub returns : goal.returns
returns c = certificates_bound
