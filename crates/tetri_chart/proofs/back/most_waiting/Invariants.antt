use Rattle.std.proofs.Common.{◌≡◌, ◌<◌, drop}
use Rattle.std.specs.Prelude.{max}
use Rattle.tetri_chart.specs.Ends.{most_waiting}
use Rattle.tetri_chart.proofs.back.most_waiting.Given as goal

abbrev pub invariant-loop-cycle : goal.invariant-loop-cycle
invariant-loop-cycle l = record {
  most : max l.most (most_waiting (drop l.cycle-index l.cycles)) ≡ most_waiting l.cycles;
  some : 0 < l.most;
}
