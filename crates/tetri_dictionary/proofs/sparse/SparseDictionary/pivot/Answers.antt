use Rattle.std.proofs.Common.{List, refl, sym, subst, ◌∙◌}
use Rattle.tetri_dictionary.specs.declared.lines.Line.{Line}
use Rattle.tetri_dictionary.specs.Sparse.{AreLines}
use Rattle.tetri_dictionary.proofs.FullTables.{at_place}
use Rattle.tetri_dictionary.proofs.SparseTables.{pivot_sound, pivoted_done, pivoted_fault}
use Rattle.tetri_dictionary.proofs.sparse.SparseDictionary.pivot.Goals as goal

pub pivot_lines-requires-clause-lines : goal.pivot_lines-requires-clause-lines
pivot_lines-requires-clause-lines c =
    let t = c.args.self.now in
    subst (λ (ls : List Line). AreLines c.len-columns.result ls) (sym c.deref_mut.ensures.value) (subst (λ n. AreLines n t.lines.items) (sym (c.len-columns.ensures ∙ t.nonbasic.ok.0)) c.requires.sound.lines)

pub returns-in-Ok-clause-formed : goal.returns-in-Ok-clause-formed
returns-in-Ok-clause-formed c =
    let t = c.args.self.now in
    pivoted_done t c.len-columns.result c.args.row c.args.column c.swap.new.x c.swap.new.y c.deref_mut.result.now c.pivot_lines.new.lines
    (c.len-columns.ensures ∙ t.nonbasic.ok.0) c.deref_mut.ensures.value c.in-Ok.ensures.formed c.pivot_lines.auto.lines
    (c.swap.ensures.x_after ∙ c.index_mut-in-Ok.ensures.value ∙ at_place t.basic.items c.args.row _ c.requires.row)
    (c.swap.ensures.y_after ∙ c.index_mut.ensures.value ∙ at_place t.nonbasic.items c.args.column _ c.requires.column)

pub returns-in-Ok-clause-sound : goal.returns-in-Ok-clause-sound
returns-in-Ok-clause-sound c =
    let t = c.args.self.now in
    pivot_sound t _ c.len-columns.result c.args.row c.args.column c.swap.new.x c.swap.new.y c.deref_mut.result.now c.pivot_lines.new.lines c.requires.sound (c.len-columns.ensures ∙ t.nonbasic.ok.0) c.deref_mut.ensures.value c.pivot_lines.auto.lines refl refl refl c.in-Ok.ensures.sound

pub returns-in-Err-clause-formed : goal.returns-in-Err-clause-formed
returns-in-Err-clause-formed c =
    pivoted_fault c.args.self.now c.len-columns.result c.args.row c.args.column c.deref_mut.result.now c.in-Err.fault
    (c.len-columns.ensures ∙ c.args.self.now.nonbasic.ok.0) c.deref_mut.ensures.value c.in-Err.ensures.formed
