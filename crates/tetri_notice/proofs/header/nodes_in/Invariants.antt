use Rattle.std.proofs.Common.{◌≡◌, ◌++◌, drop, All, true}
use Rattle.std.specs.Prelude.{option_map}
use Rattle.serde_json.specs.View.{items_view}
use Rattle.tetri_cluster.specs.Cluster.{names_of}
use Rattle.tetri_cluster.specs.Names.{is_name}
use Rattle.tetri_notice.specs.Fields.{nodes_in}
use Rattle.tetri_notice.proofs.header.nodes_in.Given as goal

abbrev pub invariant-loop-item : goal.invariant-loop-item
invariant-loop-item l = record {
  named : All (λ name. is_name name ≡ true) (names_of l.nodes.items);
  found : nodes_in (items_view l.item-items) ≡ option_map (λ nodes. l.nodes.items ++ nodes) (nodes_in (items_view (drop l.item-index l.item-items)));
}
