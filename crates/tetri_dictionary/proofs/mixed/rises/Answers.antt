use Rattle.std.proofs.Common.{sym, ◌∙◌}
use Rattle.tetri_dictionary.specs.Mixed.{mixed_row}
use Rattle.tetri_dictionary.proofs.MixedRows.{mixed_wide}
use Rattle.tetri_dictionary.proofs.MixedChoices.{positive_init, positive_next, positive_done}
use Rattle.tetri_dictionary.proofs.mixed.rises.Goals as goal

pub returns-then-is_positive_at : goal.returns-then-is_positive_at
returns-then-is_positive_at c =
    sym (positive_next (mixed_row c.args.row.now) c.args.columns c.loop-j.j _ (mixed_wide c.args.columns c.args.row.now c.requires) c.loop-j-test.true (sym c.is_positive_at.ensures ∙ c.if-is_positive_at.true)) ∙ c.loop-j.invariant

pub loop-j-init : goal.loop-j-init
loop-j-init c = positive_init (mixed_row c.args.row.now)

pub loop-j-preserved : goal.loop-j-preserved
loop-j-preserved c =
    sym (positive_next (mixed_row c.args.row.now) c.args.columns c.loop-j.j _ (mixed_wide c.args.columns c.args.row.now c.requires) c.loop-j-test.true (sym c.is_positive_at.ensures ∙ c.if-is_positive_at.false)) ∙ c.loop-j.invariant

pub returns : goal.returns
returns c = sym (positive_done (mixed_row c.args.row.now) c.args.columns c.loop-j.j (mixed_wide c.args.columns c.args.row.now c.requires) c.loop-j-test.false) ∙ c.loop-j.invariant
