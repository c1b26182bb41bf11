use Rattle.std.proofs.Common.{◌≡◌, ◌≤◌, drop}
use Rattle.std.specs.Prelude.{max}
use Rattle.tetri_chart.specs.Framing.{longest}
use Rattle.tetri_chart.proofs.framing.longest_name.Given as goal

abbrev pub invariant-loop-node : goal.invariant-loop-node
invariant-loop-node l = record {
  longest : max l.longest (longest (drop l.node l.trace.cluster)) ≡ longest l.trace.cluster;
  most : l.longest ≤ 64;
}
