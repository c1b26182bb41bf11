use Rattle.tetri_num.specs.Frac.{value}
use Rattle.tetri_dictionary.proofs.LessNumbers.{less_refused, width_widened}
use Rattle.tetri_dictionary.proofs.pairs_numbers.less.Goals as goal

pub unreachable-requires : goal.unreachable-requires
unreachable-requires c = less_refused c.args.width _ (value c.whole.result) (value c.args.x) c.requires.width c.requires.bounded c.whole.ensures.rational (width_widened c.args.width c.requires.width) c.in-Err.ensures.checked
