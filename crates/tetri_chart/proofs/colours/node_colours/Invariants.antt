use Rattle.std.proofs.Common.{◌≡◌, take}
use Rattle.tetri_chart.specs.Colours.{node_colours}
use Rattle.tetri_chart.proofs.colours.node_colours.Given as goal

abbrev pub invariant-loop-node : goal.invariant-loop-node
invariant-loop-node l = l.colours ≡ node_colours l.tags (take l.node l.trace.cluster)
