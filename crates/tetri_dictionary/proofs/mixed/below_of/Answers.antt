use Rattle.tetri_dictionary.proofs.BelowRows.{below_next, below_done}
use Rattle.tetri_dictionary.proofs.mixed.below_of.Goals as goal

pub loop-k-preserved : goal.loop-k-preserved
loop-k-preserved c =
    below_next c.args.rows.now c.loop-k.k c.loop-k.below.items c.push.new.self.items c.index-rows-k.result c.is_negative_at.result c.loop-k-test.true c.index-rows-k.is c.in_ok-push.ensures.items c.is_negative_at.ensures c.loop-k.invariant

pub returns : goal.returns
returns c = below_done c.args.rows.now c.loop-k.k c.loop-k.below.items c.loop-k-test.false c.loop-k.invariant
