-- The definitions of a search compute: a program of two columns with the costs 0 and 2 in the box 0..1 and 0..3,
-- whose rows say that the second column is at most four times the first, and at most 3.
use Rattle.std.proofs.Common.{◌≡◌, ℕ, ◌^◌, ◌<◌, ◌≤◌, refl, arith, List, [], ◌∷◌, map, length, true, false, Option, Some, None}
use Rattle.std.specs.Global.{Vec, Global}
use denote.RawPtr.{Ptr}
use lib.IntN.{ℤ, pos, negsuc}
use Rattle.tetri_algebra.specs.Gcd.{gcd_of, gcd_within}
use Rattle.tetri_algebra.specs.Rational.{ℚ, whole_ℚ}
use Rattle.tetri_algebra.specs.RationalRing.{neg_ℚ}
use Rattle.tetri_ip.specs.declared.programs.Program.{Program}
use Rattle.tetri_ip.specs.declared.programs.Row.{Row}
use Rattle.tetri_ip.specs.declared.programs.Term.{Term}
use Rattle.tetri_dictionary.specs.Start.{first_table}
use Rattle.tetri_dictionary.specs.Choices.{leaving}
use Rattle.tetri_simplex.specs.Ends.{best, long}
use Rattle.tetri_simplex.specs.Machine.{machine, run, turn}
use Rattle.tetri_cert.specs.Numbers.{frac_of}
use Rattle.tetri_cert.specs.declared.marks.FracCell.{FracCell}
use Rattle.tetri_cert.specs.declared.marks.Licence.TheVariants as licences
use Rattle.tetri_cert.specs.declared.marks.Mark.{Mark}
use Rattle.tetri_cert.specs.declared.marks.Mark.TheVariants.{Split, Close, Whole, Rest}
use Rattle.tetri_search.specs.declared.duals.Dual.{Dual}
use Rattle.tetri_search.specs.Table.{Node, fractional_from, end_mark, rest_mark, table, unfixed_from, worked_mark}
use Rattle.tetri_search.specs.Follow.{best_behind, last_whole}
use Rattle.tetri_search.specs.Laws.{enough}

abbrev vec_of : {X : Type 0} → Ptr → Global → (xs : List X) → length xs < 2 ^ 63 → Vec X
vec_of at g xs h = record { ptr = at; len = length xs; cap = length xs; alloc = g; items = xs; ok = (refl, le_self (length xs)); small = h }
  where
    le_self : (n : ℕ) → n ≤ n
    le_self n = omega arith

abbrev row_of : Ptr → Global → (ts : List Term) → length ts < 2 ^ 63 → ℤ → Row
row_of at g ts h right = record { terms = vec_of at g ts h; right = right }

abbrev times : ℕ → ℤ → Term
times j z = record { column = j; by = z }

abbrev linear : Ptr → Global → Program
linear at g =
    record {
      costs = vec_of at g (pos 0 ∷ pos 2 ∷ []) (omega arith);
      lower = vec_of at g (pos 0 ∷ pos 0 ∷ []) (omega arith);
      upper = vec_of at g (pos 1 ∷ pos 3 ∷ []) (omega arith);
      rows = vec_of at g (row_of at g (times 0 (negsuc 3) ∷ times 1 (pos 1) ∷ []) (omega arith) (pos 0) ∷ row_of at g (times 1 (pos 1) ∷ []) (omega arith) (pos 3) ∷ []) (omega arith);
    }

abbrev node : List ℤ → List ℤ → Option Dual → Node
node ls us d = record { region = record { lower = ls; upper = us }; dual = d }

lowest_quarters : gcd_of 3 4 ≡ 1
unfolding gcd_of gcd_within
lowest_quarters = refl

lowest_three : gcd_of 3 1 ≡ 1
unfolding gcd_of gcd_within
lowest_three = refl

lowest_one : gcd_of 1 1 ≡ 1
unfolding gcd_of gcd_within
lowest_one = refl

abbrev three_quarters : ℚ
three_quarters = record { num = pos 3; den = 4; positive = omega arith; lowest = lowest_quarters }

abbrev three : ℚ
three = record { num = pos 3; den = 1; positive = omega arith; lowest = lowest_three }

abbrev one : ℚ
one = record { num = pos 1; den = 1; positive = omega arith; lowest = lowest_one }

-- ---- the columns at which a region is split
-- the second column is the first with more than one number; the middle of 0 and 3 is 1
unfixed_second : unfixed_from 0 (pos 1 ∷ pos 0 ∷ []) (pos 1 ∷ pos 3 ∷ []) ≡ Some (record { column = 1; at = pos 1 })
unfixed_second = refl

-- the middle of -3 and 0 is -2
unfixed_below_zero : unfixed_from 0 (negsuc 2 ∷ []) (pos 0 ∷ []) ≡ Some (record { column = 0; at = negsuc 1 })
unfixed_below_zero = refl

unfixed_nowhere : unfixed_from 0 (pos 1 ∷ pos 3 ∷ []) (pos 1 ∷ pos 3 ∷ []) ≡ None
unfixed_nowhere = refl

-- 3/4 is not whole, its floor is 0
fractional_first : fractional_from 0 (three_quarters ∷ three ∷ []) ≡ Some (record { column = 0; at = pos 0 })
fractional_first = refl

fractional_nowhere : fractional_from 0 (one ∷ three ∷ []) ≡ None
fractional_nowhere = refl

-- ---- regions of one point
-- the point 1, 3 is worth 6
single_whole : (at : Ptr) (g : Global) → table (linear at g) (node (pos 1 ∷ pos 3 ∷ []) (pos 1 ∷ pos 3 ∷ []) None) 5 true ≡ Whole (pos 1) [] (pos 6) (record { column = 0; value = pos 1 } ∷ record { column = 1; value = pos 3 } ∷ [])
unfolding table worked_mark
single_whole at g = refl

-- that is no better than 6
single_closed : (at : Ptr) (g : Global) → table (linear at g) (node (pos 1 ∷ pos 3 ∷ []) (pos 1 ∷ pos 3 ∷ []) None) 6 true ≡ Close (pos 1) []
unfolding table worked_mark
single_closed at g = refl

-- the point 0, 1 breaks the first row
single_broken : (at : Ptr) (g : Global) → table (linear at g) (node (pos 0 ∷ pos 1 ∷ []) (pos 0 ∷ pos 1 ∷ []) None) 0 true ≡ Close (pos 0) (record { row = 0; by = pos 1 } ∷ [])
unfolding table worked_mark
single_broken at g = refl

-- ---- nodes that are left open
rest_without_weights : (at : Ptr) (g : Global) → table (linear at g) (node (pos 0 ∷ pos 0 ∷ []) (pos 1 ∷ pos 3 ∷ []) None) 0 false ≡ Rest (pos 1) []
unfolding table rest_mark
rest_without_weights at g = refl

rest_with_weights : (at : Ptr) (g : Global) → table (linear at g) (node (pos 0 ∷ pos 0 ∷ []) (pos 0 ∷ pos 3 ∷ []) (Some (record { q = pos 1; weights = record { row = 1; by = pos 2 } ∷ [] }))) 0 false ≡ Rest (pos 1) (record { row = 1; by = pos 2 } ∷ [])
unfolding table rest_mark
rest_with_weights at g = refl

-- weights with which weighing leaves the range are not taken
rest_past_the_range : (at : Ptr) (g : Global) → table (linear at g) (node (pos 0 ∷ pos 0 ∷ []) (pos 0 ∷ pos 3 ∷ []) (Some (record { q = pos 1; weights = record { row = 1; by = pos (2 ^ 126) } ∷ [] }))) 0 false ≡ Rest (pos 1) []
unfolding table rest_mark
rest_past_the_range at g = refl

-- ---- runs
-- the low side of the first column is closed once 6 is known
low_side_closed : (at : Ptr) (g : Global) → table (linear at g) (node (pos 0 ∷ pos 0 ∷ []) (pos 0 ∷ pos 3 ∷ []) None) 6 true ≡ Close (pos 1) []
unfolding table worked_mark machine run turn first_table leaving whole_ℚ gcd_of gcd_within neg_ℚ
low_side_closed at g = refl

-- what a mark shows, a point as its columns with their numerators and denominators
data Shown : Type 0 where
  split_at : ℕ → ℤ → List (ℕ × ℤ × ℤ) → Shown
  other : Shown

abbrev shown : Mark → Shown
shown (Split j at (licences.Point cells)) = split_at j at (map (λ (c : FracCell). (c.column, c.value.num, c.value.den)) cells)
shown (Split j at (licences.Past place)) = other
shown (Split j at licences.Long) = other
shown (Close q ws) = other
shown (Whole q ws worth cells) = other
shown (Rest q ws) = other

-- a best point 3/4, 3 splits the first column at 0
best_splits : (at : Ptr) (g : Global) → shown (end_mark (linear at g) (record { column = 0; at = pos 0 }) (best (three_quarters ∷ three ∷ []) (pos 1) [])) ≡ split_at 0 (pos 0) ((0, pos 3, pos 4) ∷ (1, pos 3, pos 1) ∷ [])
unfolding frac_of gcd_of gcd_within
best_splits at g = refl

-- a best point 1, 3 is a whole point worth 6
best_whole : (at : Ptr) (g : Global) → end_mark (linear at g) (record { column = 0; at = pos 0 }) (best (one ∷ three ∷ []) (pos 1) []) ≡ Whole (pos 1) [] (pos 6) (record { column = 0; value = pos 1 } ∷ record { column = 1; value = pos 3 } ∷ [])
best_whole at g = refl

-- a run that was too long splits the first column with more than one number in its middle
long_splits : (at : Ptr) (g : Global) → end_mark (linear at g) (record { column = 1; at = pos 1 }) long ≡ Split 1 (pos 1) licences.Long
long_splits at g = refl

-- ---- the sums behind marks
best_of_two : best_behind 4 (Split 0 (pos 0) licences.Long ∷ Whole (pos 1) [] (pos 6) [] ∷ Whole (pos 1) [] (pos 5) [] ∷ []) ≡ 6
best_of_two = refl

last_of_two : last_whole (Whole (pos 1) [] (pos 6) (record { column = 0; value = pos 1 } ∷ []) ∷ Whole (pos 1) [] (pos 7) [] ∷ Rest (pos 1) [] ∷ []) ≡ Some []
last_of_two = refl

-- the box 0..1, 0..3 has 8 points
enough_of_box : (at : Ptr) (g : Global) → enough (linear at g) ≡ 16
enough_of_box at g = refl
