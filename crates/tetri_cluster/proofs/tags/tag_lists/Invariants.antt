use Rattle.std.proofs.Common.{◌≡◌, ◌++◌, ℕ, List, drop, length}
use Rattle.tetri_cluster.specs.Tags.{tag_list, tagged_from}
use Rattle.tetri_cluster.proofs.tags.tag_lists.Given as goal

abbrev pub invariant-loop-place : goal.invariant-loop-place
invariant-loop-place l = record {
  as_many : length l.lists.items ≡ length l.tags;
  lists : (q : List ℕ) → tag_list l.tags l.lists.items q ++ tagged_from l.place q (drop l.place l.nodes) ≡ tagged_from 0 q l.nodes;
}
