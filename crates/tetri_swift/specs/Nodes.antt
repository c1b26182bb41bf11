-- The marks that a search may write at a node, whoever proposes them.
use Rattle.std.specs.Prelude.{◌≡◌, ℕ, ◌<◌, ◌≤◌, ◌^◌, List, length, Bool, false, not, pos, ◌≤ℤ◌, ◌<ℤ◌}
use lib.IntN.{ℤ}
use Rattle.tetri_ip.specs.declared.programs.Program.{Program}
use Rattle.tetri_ip.specs.Points.{Bounds, IsInBox, IsPoint, number_at, objective}
use Rattle.tetri_cert.specs.declared.marks.Mark.{Mark}
use Rattle.tetri_cert.specs.declared.marks.Mark.TheVariants.{Split, Close, Whole, Rest}
use Rattle.tetri_cert.specs.NodeText.{HasShortLists, IsPlain}
use Rattle.tetri_cert.specs.ProperTrees.{AreProper, IsWorth, end_bound}
use Rattle.tetri_search.specs.Follow.{best_after}
use Rattle.tetri_search.specs.Laws.{is_rest}

-- the mark passes the tests of a proper tree's node
abbrev pub IsTested : Program → Bounds → Mark → Type 0
IsTested p b (Split j at licence) =
    (j < length p.costs.items) × (number_at b.lower j ≤ℤ at) × (at <ℤ number_at b.upper j)
IsTested p b (Close q ws) = AreProper p b q ws
IsTested p b (Whole q ws worth cells) = AreProper p b q ws × IsWorth p b worth cells
IsTested p b (Rest q ws) = AreProper p b q ws

-- a whole point is worth more than the best objective known, and less than 2^64
abbrev pub IsBetter : ℕ → Mark → Type 0
IsBetter known (Split j at licence) = Unit {0}
IsBetter known (Close q ws) = Unit {0}
IsBetter known (Whole q ws worth cells) = (pos known <ℤ worth) × (worth <ℤ pos (2 ^ 64))
IsBetter known (Rest q ws) = Unit {0}

-- no list of the mark has more entries than the program has columns and rows
abbrev pub IsShort : Program → Mark → Type 0
IsShort p m = (most : ℕ) → length p.costs.items ≤ most → length p.rows.items ≤ most
    → HasShortLists most m

-- a mark that may be written at a region of the program's box, by the best objective known and
-- whether the budget is not spent: a rest exactly where it is spent, and any other mark bounds
-- its region by the best objective known behind it
pub record IsFair (p : Program) (b : Bounds) (known : ℕ) (left : Bool) (m : Mark) : Type 0 where
  pub in_box : IsInBox p b
  pub tested : IsTested p b m
  pub at_most : is_rest m ≡ false → end_bound p b m ≤ best_after known m
  pub better : IsBetter known m
  pub rest : is_rest m ≡ not left
  pub plain : IsPlain m
  pub short : IsShort p m

-- a point of the region, its objective, and that this is more than the best known and below 2^64
pub record IsWorthMore (p : Program) (b : Bounds) (known : ℕ) (worth : ℤ)
    (point : List ℤ) : Type 0 where
  pub point_is : IsPoint p b point
  pub worth_is : worth ≡ objective p point
  pub above : pos known <ℤ worth
  pub below : worth <ℤ pos (2 ^ 64)
