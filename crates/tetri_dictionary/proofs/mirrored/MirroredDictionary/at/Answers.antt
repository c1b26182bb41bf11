use Rattle.tetri_dictionary.proofs.PairForms.{form_bounded}
use Rattle.tetri_dictionary.proofs.mirrored.MirroredDictionary.at.Goals as goal

pub number-requires-clause-bounded : goal.number-requires-clause-bounded
number-requires-clause-bounded c = form_bounded c.args.self.now.form c.in-Pairs.t c.requires.sound c.in-Pairs.is

pub number-requires-else-column-len-clause-bounded : goal.number-requires-else-column-len-clause-bounded
number-requires-else-column-len-clause-bounded c = form_bounded c.args.self.now.form c.in-Pairs.t c.requires.sound c.in-Pairs.is
