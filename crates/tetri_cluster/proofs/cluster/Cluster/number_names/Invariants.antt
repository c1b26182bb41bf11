use Rattle.std.proofs.Common.{◌≡◌, take, drop}
use Rattle.tetri_cluster.specs.Names.{first_repeated, repeated_after}
use Rattle.tetri_cluster.specs.Cluster.{names_of}
use Rattle.tetri_cluster.proofs.cluster.Cluster.number_names.Given as goal

abbrev pub invariant-loop-place : goal.invariant-loop-place
invariant-loop-place l = record {
  names : l.names ≡ names_of (take l.place l.nodes);
  repeated : first_repeated (names_of l.nodes) ≡ repeated_after (names_of (take l.place l.nodes)) (names_of (drop l.place l.nodes));
}
