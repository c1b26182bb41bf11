use Rattle.std.proofs.Common.{◌≡◌, drop, max}
use Rattle.tetri_strl.specs.Tree.{leaves, leaves_of, tree, trees}
use Rattle.tetri_greedy.specs.Order.{past_last_start}
use Rattle.tetri_greedy.proofs.order.+past_last_start.Given as goal

abbrev pub invariant-loop-part : goal.invariant-loop-part
invariant-loop-part l =
    max l.last (past_last_start l.from l.to (leaves_of (trees (drop l.part-index l.part-items)))) ≡ past_last_start l.from l.to (leaves (tree l.e))
