use Rattle.std.proofs.Common.{◌≡◌, map}
use Rattle.tetri_space.specs.steps.Finding.{firsts, grouped}
use Rattle.tetri_base.specs.Lists.{list_at}
use Rattle.tetri_space.proofs.finding.group_nodes.Given as goal

abbrev pub invariant-loop-node : goal.invariant-loop-node
invariant-loop-node l = record {
  signatures : map (λ v. v.items) l.found.keys ≡ map (list_at l.signatures) (firsts (list_at l.signatures) l.node);
  groups : l.groups.items ≡ grouped (list_at l.signatures) l.node;
}
