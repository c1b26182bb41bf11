-- All nodes that lines tell of.
use Rattle.std.specs.Prelude.{ℕ, ◌==◌, List, [], ◌∷◌, ◌++◌, fold, length, slice_index_or, slice_set, Option, Some, None, if◌then◌else◌}
use Rattle.tetri_cluster.specs.Cluster.{names_of}
use Rattle.tetri_cluster.specs.Names.{number_of}
use Rattle.tetri_cluster.specs.declared.cluster.NodeText.{NodeText}
use Rattle.tetri_io.specs.Words.{parts_at}
use Rattle.tetri_hosts.specs.Columns.{node_line_of, with_new_tag}
use Rattle.tetri_hosts.specs.States.{stricter}
use Rattle.tetri_hosts.specs.declared.node.NodeLine.{NodeLine}
use Rattle.tetri_hosts.specs.declared.nodes.NodeFate.{NodeFate}
use Rattle.tetri_hosts.specs.declared.nodes.NodeFate.TheVariants.{Node, Blank, Unread}
use Rattle.tetri_hosts.specs.declared.nodes.Nodes.{Nodes}
use Rattle.tetri_hosts.specs.declared.state.NodeState.{NodeState}
use Rattle.tetri_hosts.specs.declared.state.NodeState.TheVariants.{Free}

-- the nodes, each with its tags, their states, and what each line is
pub record Told : Type 0 where
  pub nodes : List NodeText
  pub states : List NodeState
  pub fates : List NodeFate

abbrev pub told : Nodes → Told
told n = record { nodes = n.nodes.items; states = n.states.items; fates = n.fates.items }

abbrev pub no_nodes : Told
no_nodes = record { nodes = []; states = []; fates = [] }

abbrev pub with_fate : Told → NodeFate → Told
with_fate t fate = record t { fates = t.fates ++ fate ∷ [] }

-- tags behind those that are there
abbrev pub with_tags : List (List ℕ) → List (List ℕ) → List (List ℕ)
with_tags tags others = fold with_new_tag tags others

abbrev pub with_new : Told → NodeLine → Told
with_new t l = record t { nodes = t.nodes ++ record { name = l.name; tags = l.tags } ∷ []; states = t.states ++ l.state ∷ [] }

-- what stands for a node that is not there
abbrev pub no_node : NodeText
no_node = record { name = []; tags = [] }

abbrev pub node_at : Told → ℕ → NodeText
node_at t place = slice_index_or t.nodes place no_node

-- what one line more tells of the node at a place
abbrev pub with_merged : Told → ℕ → NodeLine → Told
with_merged t place l = record t {
  nodes = slice_set t.nodes place (record (node_at t place) { tags = with_tags (node_at t place).tags l.tags });
  states = slice_set t.states place (stricter (slice_index_or t.states place Free) l.state);
}

abbrev pub with_told_at : Told → NodeLine → Option ℕ → Told
with_told_at t l None = with_new t l
with_told_at t l (Some place) = with_merged t place l

-- a line tells of a node of its name, or of a new one
abbrev pub with_told : Told → NodeLine → Told
with_told t l = with_told_at t l (number_of l.name (names_of t.nodes))

abbrev pub with_read : Told → Option NodeLine → Told
with_read t None = with_fate t Unread
with_read t (Some l) = with_told (with_fate t Node) l

abbrev pub with_line : Told → List ℕ → Told
with_line t line = if length line == 0 then with_fate t Blank else with_read t (node_line_of line)

-- what all lines tell
abbrev pub nodes_in : List ℕ → Told
nodes_in text = fold with_line no_nodes (parts_at 10 text)
