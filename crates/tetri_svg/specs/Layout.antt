-- The sizes of a picture as plain data.
use Rattle.std.specs.Prelude.{ℕ, ◌+◌, ◌≤◌}

-- the first slot that it shows and the first behind those, how many nodes it has, how wide a slot and how high a node is, the gap between a
-- bar and the ends of its row, where the plot begins at the left, and how many lines stand below the legend
pub record Layout : Type 0 where
  pub first : ℕ
  pub until : ℕ
  pub nodes : ℕ
  pub column : ℕ
  pub row : ℕ
  pub gap : ℕ
  pub left : ℕ
  pub lines : ℕ

-- no picture is larger
pub record IsSmall (f : Layout) : Type 0 where
  pub until : f.until ≤ 20000
  pub nodes : f.nodes ≤ 10000
  pub column : f.column ≤ 32
  pub row : f.row ≤ 24
  pub gap : f.gap + f.gap ≤ f.row
  pub inset : 24 ≤ f.left
  pub left : f.left ≤ 1000
  pub lines : f.lines ≤ 100
