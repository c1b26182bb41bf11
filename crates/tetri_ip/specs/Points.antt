-- Integer programs over plain lists of whole numbers: points, regions and fit programs.
use Rattle.std.specs.Prelude.{◌≡◌, ℕ, ◌+◌, ◌*◌, ◌^◌, ◌<◌, List, [], ◌∷◌, length, slice_index_or, cond, Option, Some, None, ◌-ℤ◌, ◌*ℤ◌, ◌≤ℤ◌, pos, unsigned_abs, max, sum_by}
use Prim.Native.Nat.{zero, suc}
use lib.IntN.{ℤ}
use lib.Signed.{lt_z}
use Rattle.tetri_algebra.specs.IntegerRing.{ℤ_ring}
use Rattle.tetri_algebra.specs.Range.{IsWithin}
use Rattle.tetri_algebra.specs.Sums.{sum_over, dot, unit_at}
use Rattle.tetri_ip.specs.declared.programs.Program.{Program}
use Rattle.tetri_ip.specs.declared.programs.Row.{Row}
use Rattle.tetri_ip.specs.declared.programs.Region.{Region}
use Rattle.tetri_ip.specs.declared.programs.Term.{Term}

-- the number at a place, and 0 past the end
abbrev pub number_at : List ℤ → ℕ → ℤ
number_at xs k = slice_index_or xs k (pos 0)

-- the term at a place, and 0 times column 0 past the end
abbrev pub term_at : List Term → ℕ → Term
term_at ts k = slice_index_or ts k (record { column = 0; by = pos 0 })

-- the column of the term at a place
abbrev pub column_at : List Term → ℕ → ℕ
column_at ts k = (term_at ts k).column

-- the terms of a row, and none past the end
abbrev pub terms_of : List Row → ℕ → List Term
terms_of [] k = []
terms_of (r ∷ rs) zero = r.terms.items
terms_of (r ∷ rs) (suc k) = terms_of rs k

-- the right side of a row, and 0 past the end
abbrev pub right_of : List Row → ℕ → ℤ
right_of [] k = pos 0
right_of (r ∷ rs) zero = r.right
right_of (r ∷ rs) (suc k) = right_of rs k

-- a row's coefficient at a column
abbrev pub coefficient : List Term → ℕ → ℤ
coefficient ts j = sum_over ℤ_ring (λ t. unit_at ℤ_ring t.column t.by j) ts

-- the left side of a row at a point
abbrev pub left_side : List Term → List ℤ → ℤ
left_side ts point = sum_over ℤ_ring (λ t. t.by *ℤ number_at point t.column) ts

-- the sum of the sizes of a row's products at a point
abbrev pub sizes : List Term → List ℤ → ℕ
sizes ts point = sum_by (λ (t : Term). unsigned_abs t.by * unsigned_abs (number_at point t.column)) ts

-- the sum of each column's cost times its number
abbrev pub objective : Program → List ℤ → ℤ
objective p point = dot ℤ_ring p.costs.items point

-- the lower and the upper bounds of a region, one each for each column
pub record Bounds : Type 0 where
  pub lower : List ℤ
  pub upper : List ℤ

abbrev pub bounds_of : Region → Bounds
bounds_of r = record { lower = r.lower.items; upper = r.upper.items }

-- the whole region of a program
abbrev pub box_of : Program → Bounds
box_of p = record { lower = p.lower.items; upper = p.upper.items }

-- each of the first n numbers of the one list is at most that of the other
abbrev pub IsBelow : ℕ → List ℤ → List ℤ → Type 0
IsBelow n xs ys = (k : ℕ) → k < n → number_at xs k ≤ℤ number_at ys k

-- each of the first n numbers of the middle list is from that of the first to that of the last
abbrev pub IsBetween : ℕ → List ℤ → List ℤ → List ℤ → Type 0
IsBetween n xs ys zs = (k : ℕ) → k < n → (number_at xs k ≤ℤ number_at ys k) × (number_at ys k ≤ℤ number_at zs k)

-- the left side of each row is at most its right side
abbrev pub MeetsRows : List Row → List ℤ → Type 0
MeetsRows rows point = (k : ℕ) → k < length rows → left_side (terms_of rows k) point ≤ℤ right_of rows k

-- the first row that a point breaks, where the rows are numbered from i on
abbrev pub first_unmet_from : ℕ → List Row → List ℤ → Option ℕ
first_unmet_from i [] point = None
first_unmet_from i (r ∷ rs) point = cond (lt_z r.right (left_side r.terms.items point)) (Some i) (first_unmet_from (i + 1) rs point)

-- one number for each column, each within its bounds, and each row met
pub record IsPoint (p : Program) (b : Bounds) (point : List ℤ) : Type 0 where
  pub count : length point ≡ length p.costs.items
  pub inside : IsBetween (length p.costs.items) b.lower point b.upper
  pub met : MeetsRows p.rows.items point

-- a region with lower at most upper, inside the box of a program
pub record IsInBox (p : Program) (b : Bounds) : Type 0 where
  pub lower_count : length b.lower ≡ length p.costs.items
  pub upper_count : length b.upper ≡ length p.costs.items
  pub above : IsBelow (length p.costs.items) p.lower.items b.lower
  pub ordered : IsBelow (length p.costs.items) b.lower b.upper
  pub below : IsBelow (length p.costs.items) b.upper p.upper.items

-- each number of a list in the range
abbrev pub NumbersWithin : List ℤ → Type 0
NumbersWithin xs = (k : ℕ) → k < length xs → IsWithin (number_at xs k)

-- the greatest size of a column's number in the box
abbrev pub size_at : Program → ℕ → ℕ
size_at p j = max (unsigned_abs (number_at p.lower.items j)) (unsigned_abs (number_at p.upper.items j))

-- the most that a list of terms can be in size at a point in the box
abbrev pub reach : Program → List Term → ℕ
reach p ts = sum_by (λ (t : Term). unsigned_abs t.by * size_at p t.column) ts

-- the same of the costs from a column on
abbrev pub cost_reach : Program → ℕ → List ℤ → ℕ
cost_reach p j [] = 0
cost_reach p j (c ∷ cs) = unsigned_abs c * size_at p j + cost_reach p (j + 1) cs

-- terms that ascend by column, in the program, with numbers in range, and sums in range at each point of the box
pub record IsFitRow (p : Program) (ts : List Term) (right : ℤ) : Type 0 where
  pub ascending : (k m : ℕ) → k < m → m < length ts → column_at ts k < column_at ts m
  pub columns : (k : ℕ) → k < length ts → column_at ts k < length p.costs.items
  pub numbers : (k : ℕ) → k < length ts → IsWithin (term_at ts k).by
  pub in_range : reach p ts + unsigned_abs right < 2 ^ 127

-- a program whose numbers and sums are in range at each point of its box
pub record IsFit (p : Program) : Type 0 where
  pub few_columns : length p.costs.items < 2 ^ 31
  pub few_rows : length p.rows.items < 2 ^ 31
  pub lower_count : length p.lower.items ≡ length p.costs.items
  pub upper_count : length p.upper.items ≡ length p.costs.items
  pub ordered : IsBelow (length p.costs.items) p.lower.items p.upper.items
  pub costs_within : NumbersWithin p.costs.items
  pub lower_within : NumbersWithin p.lower.items
  pub upper_within : NumbersWithin p.upper.items
  pub widths : (k : ℕ) → k < length p.costs.items → IsWithin (number_at p.upper.items k -ℤ number_at p.lower.items k)
  pub rows : (k : ℕ) → k < length p.rows.items → IsFitRow p (terms_of p.rows.items k) (right_of p.rows.items k)
  pub costs : cost_reach p 0 p.costs.items < 2 ^ 127
