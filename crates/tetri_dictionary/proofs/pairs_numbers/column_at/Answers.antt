use Rattle.tetri_num.specs.Frac.{value}
use Rattle.tetri_dictionary.proofs.LessNumbers.{width_widened}
use Rattle.tetri_dictionary.proofs.MirrorPlaces.{column_constant, column_own, column_other}
use Rattle.tetri_dictionary.proofs.pairs_numbers.column_at.Goals as goal

pub returns-then-k-eq0 : goal.returns-then-k-eq0
returns-then-k-eq0 c = column_constant c.args.width _ (value c.whole.result) c.args.columns c.args.place c.args.k c.whole.ensures.rational (width_widened c.args.width c.requires.column.width) c.if-k-eq0.true

pub returns-then-k-place : goal.returns-then-k-place
returns-then-k-place c = column_own c.args.width (value c.whole-then-k-place.result) c.args.columns c.args.place c.args.k c.whole-then-k-place.ensures.rational c.requires.column.row c.if-k-place.true

pub returns-else-k-place : goal.returns-else-k-place
returns-else-k-place c = column_other c.args.width (value c.whole-else-k-place.result) c.args.columns c.args.place c.args.k c.whole-else-k-place.ensures.rational c.requires.within c.if-k-eq0.false c.if-k-place.false
