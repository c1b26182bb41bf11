use Rattle.std.proofs.Common.{◌≡◌, ◌+◌, ◌≤◌, drop}
use Rattle.tetri_cert.specs.Trees.{nodes_in}
use Rattle.tetri_cert.proofs.walk.count_nodes.Given as goal

abbrev pub invariant-loop-mark : goal.invariant-loop-mark
invariant-loop-mark l = record {
  few : l.nodes ≤ l.mark-index;
  counted : l.nodes + nodes_in (drop l.mark-index l.marks) ≡ nodes_in l.marks;
}
