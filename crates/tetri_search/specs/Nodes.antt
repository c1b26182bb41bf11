-- What the search keeps of its open nodes and of the marks that it wrote.
use Rattle.std.specs.Prelude.{◌≡◌, ◌≢◌, ◌<◌, ◌^◌, List, [], ◌∷◌, length, Option, Some, None, ◌<ℤ◌, pos}
use Rattle.std.specs.List.{All}
use Rattle.tetri_algebra.specs.Range.{IsWithin}
use Rattle.tetri_ip.specs.declared.programs.Program.{Program}
use Rattle.tetri_ip.specs.Points.{IsInBox, IsPoint, box_of, objective}
use Rattle.tetri_ip.specs.Weighed.{AreNotNegative, AreOfRows, WeightsAscend}
use Rattle.tetri_cert.specs.declared.marks.Mark.{Mark}
use Rattle.tetri_cert.specs.declared.marks.Mark.TheVariants.{Split, Close, Whole, Rest}
use Rattle.tetri_cert.specs.declared.marks.Licence.TheVariants as licences
use Rattle.tetri_cert.specs.Cells.{AreOfColumns, point_of}
use Rattle.tetri_search.specs.declared.duals.Dual.{Dual}
use Rattle.tetri_search.specs.Table.{Node}

-- weights of the program's rows, ascending by row, each above 0 and in range, over a multiplier above 0
pub record IsDual (p : Program) (d : Dual) : Type 0 where
  pub rows : AreOfRows p d.weights
  pub ascending : WeightsAscend d.weights
  pub signs : AreNotNegative d.weights
  pub nonzero : All (λ w. w.by ≢ pos 0) d.weights
  pub in_range : All (λ w. IsWithin w.by) d.weights
  pub multiplier : pos 0 <ℤ d.q
  pub multiplier_in_range : IsWithin d.q

abbrev pub IfDual : Program → Option Dual → Type 0
IfDual p None = Unit {0}
IfDual p (Some d) = IsDual p d

-- each region lies in the program's box, and the weights above can be weighed with
abbrev pub AreOpen : Program → List Node → Type 0
AreOpen p [] = Unit {0}
AreOpen p (n ∷ ns) = IsInBox p n.region × IfDual p n.dual × AreOpen p ns

-- the numbers of a place where an operation left the range are those of a table
abbrev pub IsNarrow : Mark → Type 0
IsNarrow (Split j at (licences.Point cells)) = Unit {0}
IsNarrow (Split j at (licences.Past place)) = (place.step < 2 ^ 32) × (place.row < 2 ^ 32) × (place.column < 2 ^ 32)
IsNarrow (Split j at licences.Long) = Unit {0}
IsNarrow (Close q ws) = Unit {0}
IsNarrow (Whole q ws worth cells) = Unit {0}
IsNarrow (Rest q ws) = Unit {0}

-- a whole point is one of the program, with its objective
abbrev pub IsWholePoint : Program → Mark → Type 0
IsWholePoint p (Split j at licence) = Unit {0}
IsWholePoint p (Close q ws) = Unit {0}
IsWholePoint p (Whole q ws worth cells) =
    AreOfColumns (length p.costs.items) cells
    × IsPoint p (box_of p) (point_of (length p.costs.items) cells)
    × (worth ≡ objective p (point_of (length p.costs.items) cells))
IsWholePoint p (Rest q ws) = Unit {0}

abbrev pub AreWholePoints : Program → List Mark → Type 0
AreWholePoints p [] = Unit {0}
AreWholePoints p (m ∷ ms) = IsWholePoint p m × AreWholePoints p ms
