-- Chvátal-Gomory cuts: the weighted sum of a program's rows, divided by a whole number and rounded down.
use Rattle.std.specs.Prelude.{◌≡◌, ℕ, ◌+◌, ◌<◌, ◌==◌, List, [], ◌∷◌, length, cond, Option, Some, None, is_none, ◌≤ℤ◌, pos, unsigned_abs}
use Rattle.std.specs.Int.{int_div_euclid}
use lib.IntN.{ℤ}
use Rattle.tetri_ip.specs.declared.programs.Program.{Program}
use Rattle.tetri_ip.specs.declared.programs.Row.{Row}
use Rattle.tetri_ip.specs.declared.programs.Term.{Term}
use Rattle.tetri_ip.specs.declared.programs.Weight.{Weight}
use Rattle.tetri_ip.specs.Points.{IsPoint, box_of, left_side, number_at, right_of}
use Rattle.tetri_ip.specs.Weighed.{column_sum, right_sum}
use Rattle.tetri_ip.specs.Forming.{coefficients, form_sum}
use Rattle.tetri_cuts.specs.declared.fault.CutFault.{CutFault}
use Rattle.tetri_cuts.specs.declared.fault.CutFault.TheVariants.{Past, NoMemory}

-- ---- the row of a cut
-- for each column, whose costs are given from number j on, the weighted sum of its coefficients
abbrev pub sums_from : List Row → List Weight → ℕ → List ℤ → List ℤ
sums_from rows ws j [] = []
sums_from rows ws j (c ∷ cs) = column_sum rows ws j ∷ sums_from rows ws (j + 1) cs

-- a term of 0 is left out
abbrev pub with_term : ℕ → ℤ → List Term → List Term
with_term j by ts = cond (unsigned_abs by == 0) ts (record { column = j; by = by } ∷ ts)

-- for each column, whose sums are given from number j on, the floor of the sum over q
abbrev pub quotients : ℤ → ℕ → List ℤ → List Term
quotients q j [] = []
quotients q j (s ∷ ss) = with_term j (int_div_euclid s q) (quotients q (j + 1) ss)

abbrev pub cut_terms : Program → ℤ → List Weight → List Term
cut_terms p q ws = quotients q 0 (sums_from p.rows.items ws 0 p.costs.items)

-- the floor of the weighted sum of the right sides over q
abbrev pub cut_right : Program → ℤ → List Weight → ℤ
cut_right p q ws = int_div_euclid (right_sum p.rows.items ws) q

-- the row is the cut of the weights and the divisor q over the program
pub record IsCut (p : Program) (q : ℤ) (ws : List Weight) (r : Row) : Type 0 where
  pub terms : r.terms.items ≡ cut_terms p q ws
  pub right : r.right ≡ cut_right p q ws

-- ---- the first number out of range
-- the first column, whose costs are given from number j on, at which a product or a sum is out of range
abbrev pub past_from : List Row → List Weight → ℕ → List ℤ → Option ℕ
past_from rows ws j [] = None
past_from rows ws j (c ∷ cs) = cond (is_none (form_sum (coefficients rows j) ws (pos 0))) (Some j) (past_from rows ws (j + 1) cs)

-- 0 where a product or a sum of the right sides is out of range, else the first such column
abbrev pub past_column : Program → List Weight → Option ℕ
past_column p ws = cond (is_none (form_sum (right_of p.rows.items) ws (pos 0))) (Some 0) (past_from p.rows.items ws 0 p.costs.items)

-- the first number out of range is formed at the column, or memory ran out
abbrev pub IsCutFault : CutFault → Option ℕ → Type 0
IsCutFault (Past j) first = first ≡ Some j
IsCutFault NoMemory first = Unit {0}

-- ---- points
-- no lower bound of the box is below 0
abbrev pub HasNoNegativeBound : Program → Type 0
HasNoNegativeBound p = (k : ℕ) → k < length p.costs.items → pos 0 ≤ℤ number_at p.lower.items k

-- each point of the program meets the row
abbrev pub IsMetByPoints : Program → Row → Type 0
IsMetByPoints p r = (point : List ℤ) → IsPoint p (box_of p) point → left_side r.terms.items point ≤ℤ r.right
