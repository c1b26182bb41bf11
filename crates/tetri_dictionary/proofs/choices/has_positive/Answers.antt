use Rattle.std.proofs.Common.{sym, ◌∙◌, arith}
use Rattle.tetri_dictionary.proofs.Choosing.{positive_next, positive_init, positive_done}
use Rattle.tetri_dictionary.proofs.choices.has_positive.Goals as goal

pub returns-then-is_positive : goal.returns-then-is_positive
returns-then-is_positive c = sym (positive_next c.args.row.now c.loop-k.k c.index-row-k.result _ (omega arith) c.index-row-k.is (sym c.is_positive.ensures ∙ c.if-is_positive.true)) ∙ c.loop-k.invariant

pub loop-k-init : goal.loop-k-init
loop-k-init c = positive_init c.args.row.now

pub loop-k-preserved : goal.loop-k-preserved
loop-k-preserved c = sym (positive_next c.args.row.now c.loop-k.k c.index-row-k.result _ (omega arith) c.index-row-k.is (sym c.is_positive.ensures ∙ c.if-is_positive.false)) ∙ c.loop-k.invariant

pub returns : goal.returns
returns c = sym (positive_done c.args.row.now c.loop-k.k (omega arith)) ∙ c.loop-k.invariant
