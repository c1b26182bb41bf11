-- How many nodes of a partition a leaf may get.
use Rattle.std.specs.Prelude.{ℕ, Bool, if◌then◌else◌, List}
use Rattle.std.specs.List.{list_any}
use Rattle.tetri_strl.specs.declared.expr.Leaf.{Leaf}
use Rattle.tetri_space.specs.Free.{slots}
use Rattle.tetri_space.specs.Partitions.{available, is_closed_part}
use Rattle.tetri_space.specs.Space.{Space}

-- the partition is closed in some slot of the leaf
abbrev pub is_shut : Space → List (List ℕ) → ℕ → Leaf → Bool
is_shut s parts p l = list_any (is_closed_part s parts p) (slots l)

-- none where the partition is closed in some slot of the leaf, and else as many as are free at its start
abbrev pub usable_by : Space → List (List ℕ) → ℕ → Leaf → ℕ
usable_by s parts p l = if is_shut s parts p l then 0 else available s parts p l.start
