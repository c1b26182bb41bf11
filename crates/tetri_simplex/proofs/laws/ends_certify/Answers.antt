use Rattle.std.proofs.Common.{subst}
use Rattle.tetri_simplex.specs.Certificates.{Certifies}
use Rattle.tetri_simplex.proofs.BestEnds.{best_of_all}
use Rattle.tetri_simplex.proofs.EndFacts.{machine_certified}
use Rattle.tetri_simplex.proofs.laws.ends_certify.Goals as goal

pub returns-clause-certified : goal.returns-clause-certified
returns-clause-certified c = λ p b known i. machine_certified p b known i

pub returns-clause-best : goal.returns-clause-best
returns-clause-best c = λ p b known point other q ws i e m. best_of_all p b known point other q ws (subst (λ z. Certifies p b known z) e (machine_certified p b known i)) m
