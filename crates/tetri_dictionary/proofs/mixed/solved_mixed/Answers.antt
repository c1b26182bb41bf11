use Rattle.std.proofs.Common.{◌∙◌}
use mir.Val.{to_z, of_z}
use mir.Syntax.{w64}
use Rattle.tetri_rows.proofs.RowLaws.{short_word}
use Rattle.tetri_dictionary.proofs.MixedRows.{as_whole, pivot_in_whole, solved_in_whole, solved_whole_numbers}
use Rattle.tetri_dictionary.proofs.mixed.solved_mixed.Goals as goal

pub solve_for-den-requires-clause-pivot : goal.solve_for-den-requires-clause-pivot
solve_for-den-requires-clause-pivot c =
    pivot_in_whole c.args.columns c.args.j c.args.row.now c.in-Whole.den c.in-Whole.numbers c.deref_mut.result.now c.requires.row c.in-Whole.is (c.deref_mut.ensures.value ∙ c.in_ok-solved-in-Whole.ensures ∙ c.deref.ensures.value) c.requires.place c.requires.pivot

pub returns-in_ok-solved-in-Whole-clause-formed : goal.returns-in_ok-solved-in-Whole-clause-formed
returns-in_ok-solved-in-Whole-clause-formed c =
    let h = as_whole c.args.columns c.args.row.now c.in-Whole.den c.in-Whole.numbers c.requires.row c.in-Whole.is in
    solved_in_whole c.args.columns c.args.i c.args.j c.args.row.now c.in-Whole.den (to_z w64 (of_z w64 c.in-Whole.den)) c.solve_for-den.result (to_z w64 (of_z w64 c.solve_for-den.result)) c.in-Whole.numbers c.in_ok-solved-in-Whole.solved
    c.deref_mut.result.now c.solve_for-den.new.row c.requires.row c.in-Whole.is (short_word c.in-Whole.den h.over.short) (short_word c.solve_for-den.result c.solve_for-den.ensures.den.short)
    (c.deref_mut.ensures.value ∙ c.in_ok-solved-in-Whole.ensures ∙ c.deref.ensures.value) c.deref_mut.ensures.value c.solve_for-den.auto.row c.requires.place c.solve_for-den.ensures.formed

pub returns-in_ok-solved-in-Whole-clause-sound : goal.returns-in_ok-solved-in-Whole-clause-sound
returns-in_ok-solved-in-Whole-clause-sound c =
    solved_whole_numbers c.args.columns c.args.row.now c.in-Whole.den c.solve_for-den.result (to_z w64 (of_z w64 c.solve_for-den.result)) c.in-Whole.numbers c.in_ok-solved-in-Whole.solved
    c.deref_mut.result.now c.solve_for-den.new.row c.requires.row c.in-Whole.is (short_word c.solve_for-den.result c.solve_for-den.ensures.den.short)
    (c.deref_mut.ensures.value ∙ c.in_ok-solved-in-Whole.ensures ∙ c.deref.ensures.value) c.deref_mut.ensures.value c.solve_for-den.auto.row c.solve_for-den.ensures.den c.solve_for-den.ensures.row
