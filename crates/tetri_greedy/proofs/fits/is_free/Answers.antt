use Rattle.std.specs.Bool.{one_answer}
use Rattle.tetri_space.specs.Free.{IsFreeThroughout, is_free_throughout}
use Rattle.tetri_space.specs.Space.{space}
use Rattle.tetri_space.proofs.InstanceLaws.{throughout_decides}
use Rattle.tetri_greedy.proofs.fits.is_free.Goals as goal

pub returns : goal.returns
returns c =
    let s = space c.args.inst.now in
    let l = c.args.leaf.now in
    one_answer {P = IsFreeThroughout s l c.args.node} c.free_throughout.result (is_free_throughout s l c.args.node) c.free_throughout.ensures
    (throughout_decides s l c.args.node c.requires.good.some_slots)
