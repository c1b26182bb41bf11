use Rattle.std.proofs.Common.{◌≡◌, ◌<◌, ◌^◌, drop}
use Rattle.std.specs.Prelude.{max}
use Rattle.tetri_chart.specs.Ends.{most_bound, most_value}
use Rattle.tetri_chart.proofs.back.most_of.Given as goal

abbrev pub invariant-loop-cycle : goal.invariant-loop-cycle
invariant-loop-cycle l = record {
  value : max l.value (most_value (drop l.cycle-index l.cycles)) ≡ most_value l.cycles;
  bound : max l.bound (most_bound (drop l.cycle-index l.cycles)) ≡ most_bound l.cycles;
  small : l.bound < 2 ^ 64;
}
