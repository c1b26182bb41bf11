use Rattle.tetri_rows.proofs.Bounds.{small_quotient}
use Rattle.tetri_rows.proofs.laws.small_quotients.Goals as goal

pub returns : goal.returns
returns c = small_quotient
