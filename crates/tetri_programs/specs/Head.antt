-- The head of a text, in lines of comment: the cycle, how large its program is, and the nodes of each partition by their names.
use Rattle.std.specs.Prelude.{ℕ, ◌+◌, ◌-◌, List, [], ◌∷◌, ◌++◌, codes, decimal, flat_map, if◌then◌else◌, length, map, nat_lt}
use Rattle.std.specs.List.{range_with_len}
use Rattle.tetri_cluster.specs.Cluster.{name_at}
use Rattle.tetri_cluster.specs.declared.cluster.NodeText.{NodeText}
use Rattle.tetri_compile.specs.Flat.{column_count, row_count}
use Rattle.tetri_export.specs.declared.format.Format.{Format}
use Rattle.tetri_export.specs.declared.format.Format.TheVariants.{Lp, Mps}
use Rattle.tetri_space.specs.Partitions.{part_at, partitions}
use Rattle.tetri_space.specs.Space.{Space}

-- what begins a line of comment
abbrev pub mark_in : Format → List ℕ
mark_in Lp = codes "\\"
mark_in Mps = codes "*"

unfoldable pub cycle_line : List ℕ → ℕ → List ℕ
cycle_line mark number = mark ++ codes " cycle " ++ decimal number ++ codes "\n"

unfoldable pub size_line : List ℕ → ℕ → ℕ → List ℕ
size_line mark columns rows = mark ++ codes " " ++ decimal columns ++ codes " columns, " ++ decimal rows ++ codes " rows\n"

-- how many nodes a partition has
unfoldable pub count_text : List ℕ → ℕ → ℕ → List ℕ
count_text mark part count = mark ++ codes " part" ++ decimal part ++ codes ": " ++ decimal count ++ codes " nodes"

-- a name in the line of the one before it, and in a new line
unfoldable pub name_here : List ℕ → List ℕ
name_here name = codes " " ++ name

unfoldable pub name_below : List ℕ → List ℕ → List ℕ
name_below mark name = codes "\n" ++ mark ++ codes "  " ++ name

-- a name behind a blank, where a line has room for so many bytes more: in this line if it fits, else in a new one, which has room for 98
abbrev pub name_text : List ℕ → ℕ → List ℕ → List ℕ
name_text mark room name = if nat_lt (length name) room then name_here name else name_below mark name

-- for how many bytes there is room behind the name
abbrev pub room_behind : ℕ → List ℕ → ℕ
room_behind room name = (if nat_lt (length name) room then room else 98) - (length name + 1)

-- names one after another, and the end of their last line
abbrev pub names_text : List ℕ → ℕ → List (List ℕ) → List ℕ
names_text mark room [] = codes "\n"
names_text mark room (name ∷ names) = name_text mark room name ++ names_text mark (room_behind room name) names

-- a partition of this number: how many nodes it has, and their names in the lines below
abbrev pub part_text : List ℕ → ℕ → List (List ℕ) → List ℕ
part_text mark part names = count_text mark part (length names) ++ names_text mark 0 names

abbrev pub node_names : List NodeText → List ℕ → List (List ℕ)
node_names nodes part = map (name_at nodes) part

abbrev pub parts_text : List ℕ → List NodeText → List (List ℕ) → List ℕ
parts_text mark nodes parts = flat_map (λ k. part_text mark k (node_names nodes (part_at parts k))) (range_with_len 0 (length parts))

-- the head in this format, where the nodes of the cluster are these
abbrev pub head_text : Format → List NodeText → Space → List ℕ
head_text f nodes s =
    cycle_line (mark_in f) s.now
    ++ size_line (mark_in f) (column_count s) (row_count s)
    ++ parts_text (mark_in f) nodes (partitions s)
