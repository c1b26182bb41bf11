use Rattle.tetri_dictionary.proofs.PairForms.{form_leaving}
use Rattle.tetri_dictionary.proofs.mirrored.MirroredDictionary.leaving.Goals as goal

pub returns-in-Pairs-clause-place : goal.returns-in-Pairs-clause-place
returns-in-Pairs-clause-place c =
    form_leaving c.args.self.now.form c.in-Pairs.t c.deref.result.now c.deref-in-Pairs.result.now c.leaving_row.result c.requires c.in-Pairs.is c.deref.ensures.value c.deref-in-Pairs.ensures.value c.leaving_row.ensures.place
