use Rattle.std.proofs.Common.{arith}
use Rattle.tetri_chart.proofs.MarkLemmas.{some_waiting}
use Rattle.tetri_chart.proofs.back.most_waiting.Goals as goal

pub loop-cycle-init : goal.loop-cycle-init
loop-cycle-init c = record { most = omega (arith, some_waiting c.args.cycles.now); some = omega arith }
