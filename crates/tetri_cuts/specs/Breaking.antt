-- The left side of a row at a point of fractions, formed term by term.
use Rattle.std.specs.Prelude.{◌≡◌, List, [], ◌∷◌, Option, Some, None, Result, Ok, Err}
use lib.IntN.{ℤ}
use Rattle.tetri_algebra.specs.Rational.{ℚ, whole_ℚ}
use Rattle.tetri_algebra.specs.RationalRing.{zero_ℚ}
use Rattle.tetri_algebra.specs.RationalOrder.{◌<ℚ◌}
use Rattle.tetri_base.specs.ResultSteps.{then_ok}
use Rattle.tetri_num.specs.declared.fractions.Op.{Op}
use Rattle.tetri_num.specs.declared.fractions.Op.TheVariants.{Add, Mul}
use Rattle.tetri_num.specs.declared.fractions.Past.{Past}
use Rattle.tetri_num.specs.Checked.{checked_product, checked_sum}
use Rattle.tetri_num.specs.Frac.{value}
use Rattle.tetri_ip.specs.declared.programs.Term.{Term}
use Rattle.tetri_simplex.specs.Relaxation.{coordinate, left_value}

-- an operation that leaves the range, with its operands
pub record Refusal : Type 0 where
  pub op : Op
  pub left : ℚ
  pub right : ℚ

abbrev pub refusal_of : Past → Refusal
refusal_of e = record { op = e.op; left = value e.left; right = value e.right }

-- what was formed, or the refusal of the operation
abbrev pub or_refused : Option ℚ → Op → ℚ → ℚ → Result ℚ Refusal
or_refused None op left right = Err (record { op = op; left = left; right = right })
or_refused (Some x) op left right = Ok x

-- the product of a coefficient and a number, and then the sum with it
abbrev pub add_term : ℚ → ℚ → ℚ → Result ℚ Refusal
add_term sum by x = then_ok (or_refused (checked_product by x) Mul by x) (λ part. or_refused (checked_sum sum part) Add sum part)

-- each coefficient times its column's number, added to a sum one by one
abbrev pub form_left : List Term → List ℚ → ℚ → Result ℚ Refusal
form_left [] point sum = Ok sum
form_left (t ∷ ts) point sum =
    then_ok (add_term sum (whole_ℚ t.by) (coordinate point t.column)) (λ next. form_left ts point next)

-- the left side is formed, and is above the right side
pub record IsBroken (ts : List Term) (right : ℤ) (point : List ℚ) : Type 0 where
  pub formed : form_left ts point zero_ℚ ≡ Ok (left_value ts point)
  pub above : whole_ℚ right <ℚ left_value ts point
