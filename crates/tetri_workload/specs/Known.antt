-- What is known of sets that were asked for.
use Rattle.std.specs.Prelude.{◌≡◌, List, map}
use Rattle.tetri_cluster.specs.declared.cluster.NodeText.{NodeText}
use Rattle.tetri_workload.specs.Kinds.{members}
use Rattle.tetri_workload.specs.declared.kinds.Kinds.{Kinds}

-- each with its nodes
abbrev pub AreKnown : List NodeText → Kinds → Type 0
AreKnown nodes k = k.members ≡ map (members nodes) k.texts
