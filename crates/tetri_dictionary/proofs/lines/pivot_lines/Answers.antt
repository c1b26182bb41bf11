use Rattle.std.proofs.Common.{ap, ◌∙◌}
use Rattle.tetri_algebra.specs.Rational.{ℚ}
use Rattle.tetri_dictionary.proofs.SparsePivots.{lines_fault, lines_pivoted, lines_unsolved, pivot_read, sound_set}
use Rattle.tetri_dictionary.proofs.lines.pivot_lines.Goals as goal

pub solved_line-requires-clause-entries : goal.solved_line-requires-clause-entries
solved_line-requires-clause-entries c = c.requires.lines c.args.i c.index-lines-i.result c.requires.row

pub solved_line-requires-clause-pivot : goal.solved_line-requires-clause-pivot
solved_line-requires-clause-pivot c = λ e. c.requires.pivot (ap (λ (p : ℚ). p.num) (pivot_read c.args.columns c.args.i c.args.j c.args.lines.now c.index-lines-i.result c.requires.row c.requires.place) ∙ e)

pub returns-in-Err-clause-formed : goal.returns-in-Err-clause-formed
returns-in-Err-clause-formed c = lines_unsolved c.args.columns c.args.i c.args.j c.args.lines.now c.index-lines-i.result c.in-Err.fault c.requires.row c.in-Err.ensures.formed

pub returns-in-Ok-replace_lines-clause-formed : goal.returns-in-Ok-replace_lines-clause-formed
returns-in-Ok-replace_lines-clause-formed c =
    lines_pivoted c.args.columns c.args.i c.args.j c.args.lines.now c.replace_lines.new.lines c.index-lines-i.result c.in-Ok.solved c.requires.row c.in-Ok.ensures.formed c.in-Ok-replace_lines.ensures.formed

pub returns-in-Ok-replace_lines-clause-sound : goal.returns-in-Ok-replace_lines-clause-sound
returns-in-Ok-replace_lines-clause-sound c = sound_set c.args.columns c.replace_lines.new.lines c.args.i c.in-Ok.solved c.in-Ok-replace_lines.ensures.sound c.in-Ok.ensures.sound

pub returns-in-Err-replace_lines-clause-formed : goal.returns-in-Err-replace_lines-clause-formed
returns-in-Err-replace_lines-clause-formed c =
    lines_fault c.args.columns c.args.i c.args.j c.args.lines.now c.index-lines-i.result c.in-Ok.solved c.in-Err-replace_lines.fault c.requires.row c.in-Ok.ensures.formed c.in-Err-replace_lines.ensures.formed
