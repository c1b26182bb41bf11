-- The order in which the weighed number is formed, and the first number out of range.
use Rattle.std.specs.Prelude.{◌≡◌, ℕ, ◌+◌, ◌^◌, ◌<◌, List, length, [], ◌∷◌, cond, nat_lt, Option, Some, None, Result, Ok, Err, ◌+ℤ◌, ◌-ℤ◌, ◌*ℤ◌, pos, unsigned_abs}
use lib.IntN.{ℤ}
use lib.Signed.{lt_z}
use Rattle.tetri_ip.specs.declared.programs.Program.{Program}
use Rattle.tetri_ip.specs.declared.programs.Row.{Row}
use Rattle.tetri_ip.specs.declared.programs.Weight.{Weight}
use Rattle.tetri_ip.specs.declared.programs.WeighFault.{WeighFault}
use Rattle.tetri_ip.specs.declared.programs.WeighFault.TheVariants.{Negative, Past}
use Rattle.tetri_ip.specs.Points.{Bounds, number_at, terms_of, right_of, coefficient}
use Rattle.tetri_ip.specs.Weighed.{bound_taken}

-- the number, where it is from -(2^127-1) to 2^127-1
abbrev pub within : ℤ → Option ℤ
within z = cond (nat_lt (unsigned_abs z) (2 ^ 127)) (Some z) None

abbrev pub then_form : Option ℤ → (ℤ → Option ℤ) → Option ℤ
then_form None f = None
then_form (Some z) f = f z

-- a product, and then a sum or a difference with it
abbrev pub add_product : ℤ → ℤ → ℤ → Option ℤ
add_product sum a b = then_form (within (a *ℤ b)) (λ part. within (sum +ℤ part))

abbrev pub subtract_product : ℤ → ℤ → ℤ → Option ℤ
subtract_product rest a b = then_form (within (a *ℤ b)) (λ part. within (rest -ℤ part))

-- the products of the weights and numbers of their rows, put to a number one by one
abbrev pub form_by : (ℤ → ℤ → ℤ → Option ℤ) → (ℕ → ℤ) → List Weight → ℤ → Option ℤ
form_by put number [] z = Some z
form_by put number (w ∷ ws) z = then_form (put z w.by (number w.row)) (λ next. form_by put number ws next)

-- added to a sum
abbrev pub form_sum : (ℕ → ℤ) → List Weight → ℤ → Option ℤ
form_sum = form_by add_product

-- the products of the weights and the right sides, added to a sum
abbrev pub form_right : List Row → List Weight → ℤ → Option ℤ
form_right rows = form_sum (right_of rows)

-- the coefficients of a column, by row
abbrev pub coefficients : List Row → ℕ → ℕ → ℤ
coefficients rows j i = coefficient (terms_of rows i) j

-- the products of the weights and a column's coefficients, taken away
abbrev pub form_factor : List Row → List Weight → ℕ → ℤ → Option ℤ
form_factor rows ws j = form_by subtract_product (coefficients rows j) ws

-- a column's factor: its cost times the multiplier, from which the products are taken away
abbrev pub column_factor : List Row → ℤ → List Weight → ℕ → ℤ → Option ℤ
column_factor rows q ws j cost = then_form (within (q *ℤ cost)) (λ first. form_factor rows ws j first)

-- the factor of each column of a program, each in range
abbrev pub AreFactors : Program → ℤ → List Weight → List ℤ → Type 0
AreFactors p q ws factors = (j : ℕ) → j < length p.costs.items → column_factor p.rows.items q ws j (number_at p.costs.items j) ≡ Some (number_at factors j)

-- the products of factors, of columns from number j on, and the bounds that they take, added to a sum one by one
abbrev pub form_bounds : Bounds → ℕ → List ℤ → ℤ → Option ℤ
form_bounds b j [] sum = Some sum
form_bounds b j (d ∷ ds) sum = then_form (add_product sum d (bound_taken b j d)) (λ next. form_bounds b (j + 1) ds next)

-- one column's numbers, and the running total
abbrev pub form_column : List Row → Bounds → ℤ → List Weight → ℕ → ℤ → ℤ → Option ℤ
form_column rows b q ws j cost sum =
    then_form (within (q *ℤ cost)) (λ first. then_form (form_factor rows ws j first) (λ d. add_product sum d (bound_taken b j d)))

abbrev pub or_past : ℕ → Option ℤ → (ℤ → Result ℤ WeighFault) → Result ℤ WeighFault
or_past j None f = Err (Past j)
or_past j (Some z) f = f z

-- the total over the columns, whose costs are given from number j on
abbrev pub form_columns : List Row → Bounds → ℤ → List Weight → ℕ → List ℤ → ℤ → Result ℤ WeighFault
form_columns rows b q ws j [] sum = Ok sum
form_columns rows b q ws j (c ∷ cs) sum =
    or_past j (form_column rows b q ws j c sum) (λ next. form_columns rows b q ws (j + 1) cs next)

-- the row of the first weight below 0
abbrev pub first_negative : List Weight → Option ℕ
first_negative [] = None
first_negative (w ∷ ws) = cond (lt_z w.by (pos 0)) (Some w.row) (first_negative ws)

abbrev pub unless_negative : Option ℕ → Result ℤ WeighFault → Result ℤ WeighFault
unless_negative None answer = answer
unless_negative (Some row) answer = Err (Negative row)

-- what weighing answers
abbrev pub weigh_answer : Program → Bounds → ℤ → List Weight → Result ℤ WeighFault
weigh_answer p b q ws =
    unless_negative
    (first_negative ws)
    (or_past 0 (form_right p.rows.items ws (pos 0)) (λ sum. form_columns p.rows.items b q ws 0 p.costs.items sum))
