use Rattle.std.proofs.Common.{ap}
use lib.IntN.{pos}
use lib.Signed.{lt_z}
use Rattle.tetri_dictionary.proofs.Numbers.{num_read}
use Rattle.tetri_dictionary.proofs.fractions.is_positive.Goals as goal

pub returns : goal.returns
returns c = ap (λ z. lt_z (pos 0) z) (num_read c.args.x)
