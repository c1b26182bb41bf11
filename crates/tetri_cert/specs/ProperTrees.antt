-- Proper trees: binary trees over the regions of a program, whose nodes pass their tests.
use Rattle.std.specs.Prelude.{◌≡◌, ℕ, ◌<◌, ◌++◌, List, [], ◌∷◌, length, max, if◌then◌else◌, Ok, Err, pos, ◌≤ℤ◌, ◌<ℤ◌, ◌↔◌}
use Rattle.std.specs.Int.{int_div_euclid}
use lib.IntN.{ℤ}
use lib.Signed.{lt_z}
use Rattle.tetri_ip.specs.declared.programs.Program.{Program}
use Rattle.tetri_ip.specs.declared.programs.Weight.{Weight}
use Rattle.tetri_ip.specs.Forming.{weigh_answer}
use Rattle.tetri_ip.specs.Points.{Bounds, IsFit, IsPoint, box_of, number_at, objective}
use Rattle.tetri_ip.specs.Weighed.{AreNotNegative, AreOfRows, weighed}
use Rattle.tetri_cert.specs.declared.faults.TreeWhy.TheVariants as why
use Rattle.tetri_cert.specs.declared.faults.TreeFault.TheVariants.{Bad}
use Rattle.tetri_cert.specs.declared.marks.Cell.{Cell}
use Rattle.tetri_cert.specs.Cells.{AreOfColumns, point_of}
use Rattle.tetri_cert.specs.declared.marks.Mark.{Mark}
use Rattle.tetri_cert.specs.declared.marks.Mark.TheVariants.{Split, Close, Whole, Rest}
use Rattle.tetri_cert.specs.declared.marks.Licence.{Licence}
use Rattle.tetri_cert.specs.NodeBounds.{capped, high_side, low_side}
use Rattle.tetri_cert.specs.Trees.{tree_bound}

pub data Tree : Type 0 where
  ends : (node : Mark) → Tree
  splits : (column : ℕ) (at : ℤ) (licence : Licence) (high : Tree) (low : Tree) → Tree

-- the nodes in preorder, the high side first
abbrev pub preorder : Tree → List Mark
preorder (ends m) = m ∷ []
preorder (splits j at licence high low) = Split j at licence ∷ (preorder high ++ preorder low)

-- no number that is formed for the weighed number leaves the range
abbrev pub IsFormed : Program → Bounds → ℤ → List Weight → Type 0
IsFormed p b q ws = weigh_answer p b q ws ≡ Ok (weighed p b q ws)

-- weights over q that bound a region, or show for q 0 that it has no point
pub record AreProper (p : Program) (b : Bounds) (q : ℤ) (ws : List Weight) : Type 0 where
  pub rows : AreOfRows p ws
  pub weights : AreNotNegative ws
  pub over : pos 0 ≤ℤ q
  pub formed : IsFormed p b q ws
  pub empty : q ≡ pos 0 → weighed p b q ws <ℤ pos 0

-- a point of a region, and its objective
pub record IsWorth (p : Program) (b : Bounds) (worth : ℤ) (cells : List Cell) : Type 0 where
  pub columns : AreOfColumns (length p.costs.items) cells
  pub point : IsPoint p b (point_of (length p.costs.items) cells)
  pub worth_is : worth ≡ objective p (point_of (length p.costs.items) cells)

-- a node that ends a region, and passes its tests
abbrev pub IsEnd : Program → Bounds → Mark → Type 0
IsEnd p b (Split j at licence) = ⊥
IsEnd p b (Close q ws) = AreProper p b q ws
IsEnd p b (Whole q ws worth cells) = AreProper p b q ws × IsWorth p b worth cells
IsEnd p b (Rest q ws) = AreProper p b q ws

-- a split has a column of the program, and whole numbers on both sides
abbrev pub IsProper : Program → Bounds → Tree → Type 0
IsProper p b (ends m) = IsEnd p b m
IsProper p b (splits j at licence high low) =
    ((j < length p.costs.items) × (number_at b.lower j ≤ℤ at) × (at <ℤ number_at b.upper j)) × (IsProper p (high_side b j at) high × IsProper p (low_side b j at) low)

-- the floor of the weighed number over q, from 0 to 2^64 - 1, and 0 for q 0
abbrev pub floor_of : Program → Bounds → ℤ → List Weight → ℕ
floor_of p b q ws = if lt_z (pos 0) q then capped (int_div_euclid (weighed p b q ws) q) else 0

abbrev pub end_bound : Program → Bounds → Mark → ℕ
end_bound p b (Split j at licence) = 0
end_bound p b (Close q ws) = floor_of p b q ws
end_bound p b (Whole q ws worth cells) = floor_of p b q ws
end_bound p b (Rest q ws) = floor_of p b q ws

-- the greatest of 0 and of the floors of the nodes, each over its own region
abbrev pub greatest : Program → Bounds → Tree → ℕ
greatest p b (ends m) = end_bound p b m
greatest p b (splits j at licence high low) = max (greatest p (high_side b j at) high) (greatest p (low_side b j at) low)

-- nodes have a bound exactly where they are a proper tree in preorder, and it is the greatest of the tree's floors
abbrev pub BoundsProperTrees : Type 0
BoundsProperTrees = (p : Program) (ms : List Mark) (t : ℕ) → IsFit p →
    (tree_bound p ms ≡ Ok t) ↔ ((tree : Tree) × (preorder tree ≡ ms) × IsProper p (box_of p) tree × (greatest p (box_of p) tree ≡ t))

-- a node that can end a region, its tests aside
abbrev pub IsLeaf : Mark → Type 0
IsLeaf (Split j at licence) = ⊥
IsLeaf (Close q ws) = Unit {0}
IsLeaf (Whole q ws worth cells) = Unit {0}
IsLeaf (Rest q ws) = Unit {0}

abbrev pub IsShaped : Tree → Type 0
IsShaped (ends m) = IsLeaf m
IsShaped (splits j at licence high low) = IsShaped high × IsShaped low

-- the fault of shape stands exactly where the nodes are no tree in preorder
abbrev pub ShapeIsOfTrees : Type 0
ShapeIsOfTrees = (p : Program) (ms : List Mark) → (tree_bound p ms ≡ Err (Bad 0 why.Shape)) ↔ (((tree : Tree) × (preorder tree ≡ ms) × IsShaped tree) → ⊥)
