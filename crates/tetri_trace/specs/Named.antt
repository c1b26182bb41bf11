-- The nodes of a trace, and the sets that its texts have named.
use Rattle.std.specs.Prelude.{◌≡◌, ◌≤◌, length}
use Rattle.tetri_parse.specs.Reader.{NamedSets}
use Rattle.tetri_cluster.specs.Sets.{HaveNodesBelow}

-- the same nodes, and perhaps more sets, none of other nodes unless one was so before
pub record AddsSets (old new : NamedSets) : Type 0 where
  pub nodes : new.nodes ≡ old.nodes
  pub more : length old.sets ≤ length new.sets
  pub within : HaveNodesBelow (length old.nodes) old.sets → HaveNodesBelow (length old.nodes) new.sets
