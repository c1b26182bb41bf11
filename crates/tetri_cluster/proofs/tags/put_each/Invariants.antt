use Rattle.std.proofs.Common.{◌≡◌, ◌++◌, ℕ, List, drop, length, map, bytes_eq}
use Rattle.std.specs.Prelude.{filter}
use Rattle.tetri_cluster.specs.Tags.{tag_list}
use Rattle.tetri_cluster.proofs.tags.put_each.Given as goal

abbrev pub invariant-loop-name : goal.invariant-loop-name
invariant-loop-name l = record {
  as_many : length l.lists.items ≡ length l.tags;
  put : (q : List ℕ) → tag_list l.tags l.lists.items q ++ map (λ _. l.node) (filter (bytes_eq q) (drop l.name-index l.name-items))
      ≡ tag_list l.fn.tags l.fn.lists.items q ++ map (λ _. l.node) (filter (bytes_eq q) l.name-items);
}
