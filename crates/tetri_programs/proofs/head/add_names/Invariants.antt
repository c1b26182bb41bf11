use Rattle.std.proofs.Common.{◌≡◌, ◌++◌, drop, string_bytes}
use Rattle.tetri_programs.specs.Head.{names_text, node_names}
use Rattle.tetri_programs.proofs.head.add_names.Given as goal

abbrev pub invariant-loop-node : goal.invariant-loop-node
invariant-loop-node l =
    string_bytes l.out ++ names_text l.mark l.room (node_names l.cluster (drop l.node-index l.nodes))
    ≡ string_bytes l.initial.out ++ names_text l.mark 0 (node_names l.cluster l.nodes)
