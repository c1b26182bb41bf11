-- A line that tells of a node.
use Rattle.std.specs.Prelude.{ℕ, ◌-◌, ◌==◌, ◌&&◌, Bool, not, List, [], ◌∷◌, ◌++◌, fold, length, take, slice_index, Option, Some, None, option_and_then, option_map, nat_eq, if◌then◌else◌, codes}
use Rattle.std.specs.List.{list_any, slice_split, starts_with}
use Rattle.tetri_cluster.specs.Names.{is_among, is_name}
use Rattle.tetri_io.specs.Words.{parts_at}
use Rattle.tetri_hosts.specs.States.{state_of}
use Rattle.tetri_hosts.specs.declared.node.NodeLine.{NodeLine}

-- what parts the columns of a line: a tab, where it has one, or else a bar
abbrev pub separator_of : List ℕ → ℕ
separator_of line = if list_any (λ b. b == 9) line then 9 else 124

abbrev pub columns_of : List ℕ → List (List ℕ)
columns_of line = parts_at (separator_of line) line

-- these bytes, if they are a name
abbrev pub name_of : List ℕ → Option (List ℕ)
name_of bytes = if is_name bytes then Some bytes else None

-- the tag of the nodes that are in a partition
abbrev pub partition_tag : List ℕ → Option (List ℕ)
partition_tag partition = name_of (codes "partition:" ++ partition)

-- the default partition has a * behind it
abbrev pub partition_name : List ℕ → List ℕ
partition_name column = if slice_index column (length column - 1) == 42 then take (length column - 1) column else column

-- a name, but not the tag of a partition
abbrev pub is_feature : List ℕ → Bool
is_feature bytes = is_name bytes && not (starts_with nat_eq bytes (codes "partition:"))

-- with one tag more, unless it is there
abbrev pub with_new_tag : List (List ℕ) → List ℕ → List (List ℕ)
with_new_tag tags tag = if is_among tag tags then tags else (if is_name tag then tags ++ tag ∷ [] else tags)

abbrev pub with_feature : List (List ℕ) → List ℕ → List (List ℕ)
with_feature tags feature = if is_feature feature then with_new_tag tags feature else tags

-- the tag of the partition, and then the features
abbrev pub tags_of : List ℕ → List ℕ → List (List ℕ)
tags_of partition features = fold with_feature (partition ∷ []) (parts_at 44 features)

abbrev pub told_with : List ℕ → List ℕ → List ℕ → List ℕ → NodeLine
told_with name state features partition = record { name = name; state = state_of state; tags = tags_of partition features }

-- what columns tell of a node, if its name and its partition's tag are names
abbrev pub told_of : List ℕ → List ℕ → List ℕ → List ℕ → Option NodeLine
told_of name state partition features =
    if is_name name then option_map (told_with name state features) (partition_tag (partition_name partition)) else None

abbrev pub of_columns : List (List ℕ) → Option NodeLine
of_columns (name ∷ state ∷ partition ∷ features ∷ []) = told_of name state partition features
of_columns _ = None

abbrev pub node_line_of : List ℕ → Option NodeLine
node_line_of line = of_columns (columns_of line)
