use Rattle.std.proofs.Common.{get_or, refl}
use Rattle.tetri_dictionary.proofs.BelowRows.{below_set}
use Rattle.tetri_dictionary.proofs.HolderRows.{pivot_untouched}
use Rattle.tetri_dictionary.proofs.MixedPivots.{own_read, mixed_fault, mixed_pivoted, mixed_unsolved}
use Rattle.tetri_dictionary.proofs.mixed.pivot_mixed.Goals as goal

pub returns-in-Err-clause-formed : goal.returns-in-Err-clause-formed
returns-in-Err-clause-formed c = mixed_unsolved c.args.columns c.args.i c.args.j c.args.rows.now (get_or c.args.rows.now c.args.i c.index-rows-i.result) c.in-Err.fault c.requires.row (own_read c.args.rows.now c.args.i c.index-rows-i.result c.requires.row) c.in-Err.ensures.formed

pub returns-in-Ok-replace_mixed-clause-formed : goal.returns-in-Ok-replace_mixed-clause-formed
returns-in-Ok-replace_mixed-clause-formed c =
    mixed_pivoted c.args.columns c.args.i c.args.j c.args.rows.now c.replace_mixed.new.rows (get_or c.args.rows.now c.args.i c.index-rows-i.result) c.in-Ok.solved c.requires.row (own_read c.args.rows.now c.args.i c.index-rows-i.result c.requires.row) c.in-Ok.ensures.formed c.in-Ok-replace_mixed.ensures.formed

pub returns-in-Err-replace_mixed-clause-formed : goal.returns-in-Err-replace_mixed-clause-formed
returns-in-Err-replace_mixed-clause-formed c =
    mixed_fault c.args.columns c.args.i c.args.j c.args.rows.now (get_or c.args.rows.now c.args.i c.index-rows-i.result) c.in-Ok.solved c.in-Err-replace_mixed.fault c.requires.row (own_read c.args.rows.now c.args.i c.index-rows-i.result c.requires.row) c.in-Ok.ensures.formed c.in-Err-replace_mixed.ensures.formed

pub returns-in-Ok-replace_mixed-clause-below : goal.returns-in-Ok-replace_mixed-clause-below
returns-in-Ok-replace_mixed-clause-below c =
    below_set c.replace_mixed.new.below _ c.replace_mixed.new.rows _ c.args.i c.is_negative_at.result c.in-Ok.solved c.in-Ok-replace_mixed.ensures.below refl refl c.is_negative_at.ensures

pub returns-in-Ok-replace_mixed-clause-untouched : goal.returns-in-Ok-replace_mixed-clause-untouched
returns-in-Ok-replace_mixed-clause-untouched c =
    pivot_untouched c.replace_mixed.new.rows c.args.rows.now _ c.replace_mixed.new.own c.args.i c.args.j c.in-Ok.solved refl c.in-Ok-replace_mixed.ensures.holder c.requires.pivot c.in-Ok-replace_mixed.ensures.untouched
