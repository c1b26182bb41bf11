use Rattle.std.proofs.lemmas.Bool.{eqb-true, eq-eqb}
use Rattle.tetri_dictionary.proofs.Numbers.{zero_from_bits, bits_of_zero}
use Rattle.tetri_dictionary.proofs.fractions.is_zero.Goals as goal

pub returns : goal.returns
returns c = (λ h. zero_from_bits c.args.x (eqb-true _ 0 h), λ e. eq-eqb _ 0 (bits_of_zero c.args.x e))
