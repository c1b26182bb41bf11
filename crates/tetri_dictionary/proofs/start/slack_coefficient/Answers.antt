use Rattle.std.proofs.Common.{sym, subst}
use Rattle.tetri_algebra.specs.Range.{IsWithin}
use Rattle.tetri_ip.proofs.IntegerProgramLaws.{coefficient_within}
use Rattle.tetri_dictionary.proofs.Numbers.{number_read}
use Rattle.tetri_dictionary.proofs.start.slack_coefficient.Goals as goal

pub slack_number-requires-clause-within : goal.slack_number-requires-clause-within
slack_number-requires-clause-within c =
    let w = coefficient_within c.args.row.now.terms.items c.args.j c.requires.row.ascending c.requires.row.numbers in
    let v = subst IsWithin (sym c.coefficient_of-by.ensures) w in
    subst IsWithin (sym (number_read c.coefficient_of-by.result v)) v
