use Rattle.std.proofs.Common.{◌∙◌}
use Rattle.tetri_cert.specs.Numbers.{fracs, small_numbers}
use Rattle.tetri_cert.specs.Pairs.{frac_cell_of_parts}
use Rattle.tetri_cert.proofs.HalvesBack.{halves_read, no_halves_read}
use Rattle.tetri_cert.proofs.lists.frac_cell_in.Goals as goal

pub returns-in_err-column : goal.returns-in_err-column
returns-in_err-column c = c.from_residual.ensures ∙ no_halves_read 58 small_numbers fracs frac_cell_of_parts c.args.word.now c.in_err-column.ensures

pub returns : goal.returns
returns c = c.frac_cell_of_halves.ensures ∙ halves_read 58 small_numbers fracs frac_cell_of_parts c.args.word.now c.in_ok-column.column.now c.in_ok-column.value.now c.in_ok-column.ensures
