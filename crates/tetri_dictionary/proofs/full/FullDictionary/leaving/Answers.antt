use Rattle.tetri_dictionary.proofs.FullTables.{leaving_is}
use Rattle.tetri_dictionary.proofs.full.FullDictionary.leaving.Goals as goal

pub returns-clause-place : goal.returns-clause-place
returns-clause-place c = leaving_is c.args.self.now c.deref.result.now c.deref-2.result.now c.leaving_place.result c.deref.ensures.value c.deref-2.ensures.value c.leaving_place.ensures.place
