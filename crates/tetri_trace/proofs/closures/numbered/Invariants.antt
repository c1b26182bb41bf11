use Rattle.std.proofs.Common.{◌≡◌, ◌++◌, drop, All, length}
use Rattle.std.specs.Prelude.{option_map}
use Rattle.tetri_cluster.specs.Cluster.{names_of}
use Rattle.tetri_space.specs.Closed.{IsSoundClosure}
use Rattle.tetri_trace.specs.Closures.{closures_at}
use Rattle.tetri_trace.proofs.closures.numbered.Given as goal

abbrev pub invariant-loop-text : goal.invariant-loop-text
invariant-loop-text l = record {
  sound : All (IsSoundClosure (length l.cluster)) l.closures.items;
  count : length l.closures.items ≡ l.text-index;
  found : closures_at (names_of l.cluster) l.texts ≡ option_map (λ closures. l.closures.items ++ closures) (closures_at (names_of l.cluster) (drop l.text-index l.texts));
}
