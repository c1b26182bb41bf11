use mir.Val.{to_z, of_z}
use mir.Syntax.{w64}
use Rattle.tetri_rows.proofs.RowLaws.{short_word}
use Rattle.tetri_dictionary.proofs.MixedRows.{as_whole, put_in_whole}
use Rattle.tetri_dictionary.proofs.mixed.put_whole.Goals as goal

pub returns-in-Whole-clause-formed : goal.returns-in-Whole-clause-formed
returns-in-Whole-clause-formed c =
    let h = as_whole c.args.columns c.args.solved.now c.in-Whole.solved_den c.in-Whole.solved_numbers c.requires.solved c.in-Whole.is in
    put_in_whole c.put_in.result c.args.columns c.args.j c.args.den (to_z w64 (of_z w64 c.args.den)) c.in-Whole.solved_den (to_z w64 (of_z w64 c.in-Whole.solved_den)) c.args.numbers.now c.deref.result.now c.put_in.new.row c.args.solved.now
    c.in-Whole.solved_numbers (short_word c.args.den c.requires.row.over.short) (short_word c.in-Whole.solved_den h.over.short) c.deref.ensures.value c.in-Whole.is c.requires.row c.requires.solved c.requires.place c.put_in.ensures.formed
