use Rattle.std.proofs.Common.{◌≡◌, drop, map}
use Rattle.tetri_report.specs.Line.{nodes_in, after_nodes}
use Rattle.tetri_trace.specs.Scenario.{scenario}
use Rattle.tetri_report.proofs.read.nodes_in.Given as goal

abbrev pub invariant-loop-name : goal.invariant-loop-name
invariant-loop-name l =
    nodes_in (scenario l.trace) (map (λ w. w.now) l.names)
    ≡ after_nodes l.nodes (nodes_in (scenario l.trace) (map (λ w. w.now) (drop l.name-index l.names)))
