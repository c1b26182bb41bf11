use Rattle.tetri_dictionary.proofs.TableRows.{pivoted_fault, pivoted_done, pivoted_past, through_copy}
use Rattle.tetri_dictionary.proofs.rows.pivot_rows.Goals as goal

pub returns-in-Err-clause-formed : goal.returns-in-Err-clause-formed
returns-in-Err-clause-formed c =
    pivoted_fault c.args.columns c.args.i c.args.j c.args.rows.now c.index-rows-i.result c.deref.result.now c.in-Err.fault c.requires.row c.deref.ensures.value c.in-Err.ensures.formed

pub returns-in-Ok-replace_rows-clause-formed : goal.returns-in-Ok-replace_rows-clause-formed
returns-in-Ok-replace_rows-clause-formed c =
    pivoted_done c.args.columns c.args.i c.args.j c.args.rows.now c.replace_rows.new.rows c.index-rows-i.result c.in-Ok.solved c.deref.result.now c.requires.row c.deref.ensures.value c.in-Ok.ensures.formed
    (through_copy _ _ _ _ c.in-Ok.solved.items c.deref-2.result.now c.replace_rows.new.rows c.deref-2.ensures.value c.in-Ok-replace_rows.ensures.formed)

pub returns-in-Err-replace_rows-clause-formed : goal.returns-in-Err-replace_rows-clause-formed
returns-in-Err-replace_rows-clause-formed c =
    pivoted_past c.args.columns c.args.i c.args.j c.args.rows.now c.index-rows-i.result c.in-Ok.solved c.deref.result.now c.deref-2.result.now c.in-Err-replace_rows.place c.requires.row c.deref.ensures.value c.in-Ok.ensures.formed
    c.deref-2.ensures.value c.in-Err-replace_rows.ensures.formed
