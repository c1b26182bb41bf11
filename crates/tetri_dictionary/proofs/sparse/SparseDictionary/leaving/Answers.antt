use Rattle.std.proofs.Common.{◌∙◌}
use Rattle.tetri_dictionary.proofs.SparseTables.{leaving_is}
use Rattle.tetri_dictionary.proofs.sparse.SparseDictionary.leaving.Goals as goal

pub returns-clause-place : goal.returns-clause-place
returns-clause-place c =
    leaving_is c.args.self.now c.len.result c.deref.result.now c.deref-2.result.now c.leaving_line.result (c.len.ensures ∙ c.args.self.now.nonbasic.ok.0) c.deref.ensures.value c.deref-2.ensures.value c.leaving_line.ensures.place
