use Rattle.std.proofs.Common.{◌∙◌}
use Rattle.tetri_dictionary.proofs.FullTables.{pivoted_done, pivoted_fault, at_place}
use Rattle.tetri_dictionary.proofs.full.FullDictionary.pivot.Goals as goal

pub returns-in-Ok-clause-formed : goal.returns-in-Ok-clause-formed
returns-in-Ok-clause-formed c =
    pivoted_done c.args.self.now c.len-columns.result c.args.row c.args.column c.swap.new.x c.swap.new.y c.deref_mut.result.now c.pivot_rows.new.rows
    (c.len-columns.ensures ∙ c.args.self.now.nonbasic.ok.0) c.deref_mut.ensures.value c.in-Ok.ensures.formed c.pivot_rows.auto.rows
    (c.swap.ensures.x_after ∙ c.index_mut-in-Ok.ensures.value ∙ at_place c.args.self.now.basic.items c.args.row _ c.requires.row)
    (c.swap.ensures.y_after ∙ c.index_mut.ensures.value ∙ at_place c.args.self.now.nonbasic.items c.args.column _ c.requires.column)

pub returns-in-Err-clause-formed : goal.returns-in-Err-clause-formed
returns-in-Err-clause-formed c =
    pivoted_fault c.args.self.now c.len-columns.result c.args.row c.args.column c.deref_mut.result.now c.in-Err.fault
    (c.len-columns.ensures ∙ c.args.self.now.nonbasic.ok.0) c.deref_mut.ensures.value c.in-Err.ensures.formed
