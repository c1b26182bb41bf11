use Rattle.std.proofs.Common.{◌∙◌}
use Rattle.tetri_cert.specs.Numbers.{small_numbers, whole_numbers}
use Rattle.tetri_cert.specs.Pairs.{pair_of_parts}
use Rattle.tetri_cert.proofs.HalvesBack.{halves_read, no_halves_read}
use Rattle.tetri_cert.proofs.lists.pair_in.Goals as goal

pub returns-in_err-key : goal.returns-in_err-key
returns-in_err-key c = c.from_residual.ensures ∙ no_halves_read 58 small_numbers whole_numbers pair_of_parts c.args.word.now c.in_err-key.ensures

pub returns : goal.returns
returns c = c.pair_of_halves.ensures ∙ halves_read 58 small_numbers whole_numbers pair_of_parts c.args.word.now c.in_ok-key.key.now c.in_ok-key.by.now c.in_ok-key.ensures
