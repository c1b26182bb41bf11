use Rattle.std.proofs.Common.{arith, rules}
use Rattle.tetri_cert.specs.declared.certificate.Certificate.TheVariants.{Tops}
use Rattle.tetri_run.proofs.StepLemmas.{no_cause}
use Rattle.tetri_run.proofs.cycle_check.refusal_of.Goals as goal

pub overflow_add-result : goal.overflow_add-result
overflow_add-result c = omega (arith, c.requires (Tops 0 0), c.place_of.ensures (Tops 0 0))

pub returns-in-None : goal.returns-in-None
returns-in-None c = λ certificate. no_cause c.args.verdict (search rules)
