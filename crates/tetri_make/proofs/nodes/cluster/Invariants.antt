use Rattle.std.proofs.Common.{◌≡◌, map}
use Rattle.std.specs.List.{range_with_len}
use Rattle.tetri_make.specs.Generated.{node_at}
use Rattle.tetri_make.proofs.nodes.cluster.Given as goal

abbrev pub invariant-loop-number : goal.invariant-loop-number
invariant-loop-number l = l.nodes.items ≡ map node_at (range_with_len 0 l.number)
