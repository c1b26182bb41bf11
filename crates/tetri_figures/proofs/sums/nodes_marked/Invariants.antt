use Rattle.std.proofs.Common.{◌≡◌, ◌+◌, ◌≤◌, drop, false, get_or}
use Rattle.tetri_base.specs.Lists.{count}
use Rattle.tetri_figures.proofs.sums.nodes_marked.Given as goal

abbrev pub invariant-loop-place : goal.invariant-loop-place
invariant-loop-place l = record {
  told : l.marked + count (λ n. get_or l.marks n false) (drop l.place l.nodes) ≡ count (λ n. get_or l.marks n false) l.nodes;
  few : l.marked ≤ l.place;
}
