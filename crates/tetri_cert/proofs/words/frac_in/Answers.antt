use Rattle.std.proofs.Common.{◌∙◌}
use Rattle.tetri_cert.specs.Numbers.{frac_of_parts, whole_numbers}
use Rattle.tetri_cert.proofs.HalvesBack.{halves_read, no_halves_read}
use Rattle.tetri_cert.proofs.words.frac_in.Goals as goal

pub returns-in_err-num : goal.returns-in_err-num
returns-in_err-num c = c.from_residual.ensures ∙ no_halves_read 47 whole_numbers whole_numbers frac_of_parts c.args.word.now c.in_err-num.ensures

pub returns : goal.returns
returns c = c.frac_of_halves.ensures ∙ halves_read 47 whole_numbers whole_numbers frac_of_parts c.args.word.now c.in_ok-num.num.now c.in_ok-num.den.now c.in_ok-num.ensures
