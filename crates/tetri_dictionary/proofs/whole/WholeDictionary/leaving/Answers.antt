use Rattle.tetri_dictionary.proofs.WholeTables.{leaving_is}
use Rattle.tetri_dictionary.proofs.whole.WholeDictionary.leaving.Goals as goal

pub returns-clause-place : goal.returns-clause-place
returns-clause-place c = leaving_is c.args.self.now c.deref.result.now c.deref-2.result.now c.leaving_row.result c.requires c.deref.ensures.value c.deref-2.ensures.value c.leaving_row.ensures.place
