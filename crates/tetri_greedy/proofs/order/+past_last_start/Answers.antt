use Rattle.std.proofs.Common.{◌+◌, ◌∙◌, ap, drop, max}
use Rattle.tetri_strl.specs.Tree.{leaves_of, trees}
use Rattle.tetri_greedy.specs.Order.{past_last_start}
use Rattle.tetri_greedy.proofs.RankLemmas.{past_last_more}
use Rattle.tetri_greedy.proofs.order.+past_last_start.Goals as goal

pub loop-part-preserved : goal.loop-part-preserved
loop-part-preserved t c =
    let es = c.deref-part-items.result.now in
    ap (λ n. max n (past_last_start c.args.from c.args.to (leaves_of (trees (drop (c.loop-part.part-index + 1) es))))) c.max-last.ensures
    ∙ past_last_more c.args.from c.args.to es c.loop-part.part-index c.part-item.result c.loop-part.last c.past_last_start-in-loop-part.result _ c.loop-part-test.true c.part-item.is
    c.past_last_start-in-loop-part.ensures c.loop-part.invariant
