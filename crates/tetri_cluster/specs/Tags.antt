-- The nodes of each tag.
use Rattle.std.specs.Prelude.{ℕ, ◌+◌, List, [], ◌∷◌, ◌++◌, map, filter, bytes_eq, slice_index_or}
use Rattle.std.specs.List.{position_or_len}
use Rattle.tetri_cluster.specs.declared.cluster.NodeText.{NodeText}

-- what is listed for a tag, none where it is not there
abbrev pub tag_list : List (List ℕ) → List (List ℕ) → List ℕ → List ℕ
tag_list tags lists tag = slice_index_or lists (position_or_len (bytes_eq tag) tags) []

-- the nodes that have a tag, once for each time that they have it, where the first of them has this number
abbrev pub tagged_from : ℕ → List ℕ → List NodeText → List ℕ
tagged_from at tag [] = []
tagged_from at tag (n ∷ ns) = map (λ _. at) (filter (bytes_eq tag) n.tags) ++ tagged_from (at + 1) tag ns
