use Rattle.tetri_dictionary.proofs.MixedRows.{negative_in_whole}
use Rattle.tetri_dictionary.proofs.mixed.is_negative_at.Goals as goal

pub returns-in-Whole : goal.returns-in-Whole
returns-in-Whole c = negative_in_whole c.args.columns c.args.row.now c.in-Whole.den c.in-Whole.numbers c.args.k c.index.result.now c.requires.row c.in-Whole.is c.requires.within c.index.ensures
