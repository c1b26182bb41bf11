use Rattle.std.proofs.Common.{◌≡◌, ◌++◌, take, map, string_bytes}
use Rattle.std.specs.Prelude.{flat_map}
use Rattle.tetri_cluster.specs.Cluster.{name_at}
use Rattle.tetri_report.specs.Text.{after_comma}
use Rattle.tetri_report.proofs.lines.add_nodes.Given as goal

abbrev pub invariant-loop-node : goal.invariant-loop-node
invariant-loop-node l = string_bytes l.out ≡ string_bytes l.initial.out ++ flat_map after_comma (map (name_at l.cluster) (take l.node-index l.others))
