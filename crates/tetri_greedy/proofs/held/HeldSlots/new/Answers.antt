use Rattle.tetri_greedy.proofs.OpenLemmas.{most_at_first}
use Rattle.tetri_greedy.proofs.held.HeldSlots.new.Goals as goal

pub invariant_of-result : goal.invariant_of-result
invariant_of-result c = most_at_first c.args.nodes c.in_ok-masks.masks.items c.each_slot.result c.in_ok-masks.ensures c.each_slot.ensures
