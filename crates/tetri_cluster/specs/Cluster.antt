-- The nodes of a cluster: each has the number of its place in the list.
use Rattle.std.specs.Prelude.{ℕ, ◌≡◌, ◌<◌, ◌≤◌, List, [], map, length, slice_index_or, Some, None, Bool, Result, Ok, Err}
use Rattle.std.specs.List.{list_any}
use Rattle.tetri_cluster.specs.Names.{is_among, first_repeated}
use Rattle.tetri_cluster.specs.declared.cluster.NodeText.{NodeText}
use Rattle.tetri_cluster.specs.declared.cluster.ClusterFault.{ClusterFault}
use Rattle.tetri_cluster.specs.declared.cluster.ClusterFault.TheVariants.{TooManyNodes, NameTaken, NoMemory}

-- the names of the nodes, in order
abbrev pub names_of : List NodeText → List (List ℕ)
names_of nodes = map (λ n. n.name) nodes

-- the name of a node
abbrev pub name_at : List NodeText → ℕ → List ℕ
name_at nodes n = slice_index_or (names_of nodes) n []

-- the tags of a node
abbrev pub tags_at : List NodeText → ℕ → List (List ℕ)
tags_at nodes n = slice_index_or (map (λ m. m.tags) nodes) n []

-- whether some node has the tag
abbrev pub knows_tag : List NodeText → List ℕ → Bool
knows_tag nodes tag = list_any (λ n. is_among tag n.tags) nodes

-- what is answered to a list of nodes: at most 4,096 are taken, whose names differ
abbrev pub AnswersBuild : List NodeText → Result (List NodeText) ClusterFault → Type 0
AnswersBuild nodes (Ok cluster) = (cluster ≡ nodes) × (length nodes ≤ 4096) × (first_repeated (names_of nodes) ≡ None)
AnswersBuild nodes (Err (TooManyNodes count)) = (4096 < length nodes) × (count ≡ length nodes)
AnswersBuild nodes (Err (NameTaken place)) = (length nodes ≤ 4096) × (first_repeated (names_of nodes) ≡ Some place)
AnswersBuild nodes (Err NoMemory) = Unit {0}
