use Rattle.tetri_queue.specs.Orders.{update_text}
use Rattle.tetri_queue.proofs.ordering.add_update.Goals as goal

pub returns : goal.returns
unfolding update_text
returns c = c.write.ensures.bytes
