use Rattle.std.proofs.Common.{◌≡◌, ◌++◌, take, map, true, string_bytes}
use Rattle.std.specs.Prelude.{All, flat_map}
use Rattle.tetri_cluster.specs.Names.{is_name}
use Rattle.tetri_cluster.specs.Cluster.{name_at}
use Rattle.tetri_parse.specs.Printing.{after_comma}
use Rattle.tetri_parse.proofs.printing.add_names.Given as goal

abbrev pub invariant-loop-node : goal.invariant-loop-node
invariant-loop-node l = record {
  so_far : string_bytes l.out ≡ string_bytes l.initial.out ++ flat_map after_comma (map (name_at l.cluster) (take l.node-index l.others));
  named : All (λ n. is_name (name_at l.cluster n) ≡ true) (take l.node-index l.others);
}
