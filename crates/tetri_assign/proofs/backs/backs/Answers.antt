use Rattle.tetri_assign.specs.steps.Taking.{back_at}
use Rattle.tetri_space.specs.Space.{space}
use Rattle.tetri_assign.proofs.StepLemmas.{push_next}
use Rattle.tetri_assign.proofs.backs.backs.Goals as goal

pub loop-node-preserved : goal.loop-node-preserved
loop-node-preserved c =
    push_next (back_at (space c.args.inst.now)) c.loop-node.node c.back_at.result c.loop-node.slots.items c.push.new.self.items c.in_ok-push.ensures.items c.loop-node.invariant c.back_at.ensures
