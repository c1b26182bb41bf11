use Rattle.std.proofs.Common.{◌≡◌, fold, map, take}
use Rattle.tetri_hosts.specs.Nodes.{no_nodes, with_line}
use Rattle.tetri_hosts.proofs.nodes.gather_nodes.Given as goal

abbrev pub invariant-loop-line : goal.invariant-loop-line
invariant-loop-line l = l.gathered ≡ fold with_line no_nodes (map (λ x. x.now) (take l.line-index l.line-items))
