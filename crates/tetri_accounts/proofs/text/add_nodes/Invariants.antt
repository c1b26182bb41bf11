use Rattle.std.proofs.Common.{◌≡◌, ◌++◌, take, map, string_bytes}
use Rattle.std.specs.Prelude.{flat_map}
use Rattle.tetri_report.specs.Text.{after_comma}
use Rattle.tetri_trace.specs.Scenario.{scenario}
use Rattle.tetri_accounts.specs.Text.{node_text}
use Rattle.tetri_accounts.proofs.text.add_nodes.Given as goal

abbrev pub invariant-loop-node : goal.invariant-loop-node
invariant-loop-node l = string_bytes l.out ≡ string_bytes l.initial.out ++ flat_map after_comma (map (node_text (scenario l.trace)) (take l.node-index l.others))
