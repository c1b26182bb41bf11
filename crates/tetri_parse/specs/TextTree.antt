-- What is granted of a tree that was read.
use Rattle.std.specs.Prelude.{◌≡◌, ℕ, ◌+◌, ◌<◌, ◌≤◌, length}
use Rattle.std.specs.List.{range_with_len}
use Rattle.tetri_strl.specs.Aligned.{EachLeaf}
use Rattle.tetri_strl.specs.Tree.{Tree, numbers, leaves}
use Rattle.tetri_strl.specs.WellMade.{IsWellMade}

-- a well-made tree that was read for an arrival, over the first so many sets
pub record IsTextTree (arrival sets : ℕ) (t : Tree) : Type 0 where
  pub well_made : IsWellMade t
  pub starts : EachLeaf (λ l. (arrival ≤ l.start) × (l.start ≤ arrival + 10000)) t
  pub numbered : numbers t ≡ range_with_len 0 (length (leaves t))
  pub known : EachLeaf (λ l. l.set < sets) t
