-- The ends of a run, with the values that they carry.
use Rattle.std.specs.Prelude.{ℕ, ◌+◌, ◌/◌, ◌^◌, List, [], ◌∷◌, length, get_or, Bool, cond, ◌==◌, nat_lt, Result, Ok, Err, ◌*ℤ◌, pos, unsigned_abs}
use lib.IntN.{ℤ}
use lib.Signed.{lt_z, le_z}
use Rattle.tetri_algebra.specs.Gcd.{lcm_of}
use Rattle.tetri_algebra.specs.Rational.{ℚ, whole_ℚ}
use Rattle.tetri_algebra.specs.RationalRing.{zero_ℚ, neg_ℚ}
use Rattle.tetri_algebra.specs.RationalOrder.{floor_ℚ}
use Rattle.tetri_algebra.specs.Range.{is_within}
use Rattle.tetri_num.specs.Checked.{checked_sum, checked_difference}
use Rattle.tetri_num.specs.declared.places.Kind.TheVariants as Kind
use Rattle.tetri_num.specs.declared.places.Place.{Place}
use Rattle.tetri_ip.specs.declared.programs.Program.{Program}
use Rattle.tetri_ip.specs.declared.programs.Weight.{Weight}
use Rattle.tetri_ip.specs.declared.programs.WeighFault.{WeighFault}
use Rattle.tetri_ip.specs.declared.programs.WeighFault.TheVariants.{Negative, Past}
use Rattle.tetri_ip.specs.Points.{Bounds}
use Rattle.tetri_ip.specs.Forming.{weigh_answer}
use Rattle.tetri_dictionary.specs.Tables.{Table, row_at, objective_of, constant_of, coefficients_of}
use Rattle.tetri_dictionary.specs.Steps.{place_at, or_place}
use Rattle.tetri_base.specs.ResultSteps.{then_ok}

pub data End : Type 0 where
  best : List ℚ → ℤ → List Weight → End
  cut : ℤ → List Weight → End
  empty : List Weight → End
  past : Place → End
  long : End

-- what was formed leads to an end, or the place at which none was formed
abbrev pub then_end : {A : Type 0} → Result A Place → (A → End) → End
then_end (Err e) f = past e
then_end (Ok x) f = f x

-- ---- the weights as fractions
-- the coefficient of a variable in a row, by the nonbasic places' variables: 0 where it is basic
abbrev pub coefficient_of : List ℕ → List ℚ → ℕ → ℚ
coefficient_of [] row v = zero_ℚ
coefficient_of (b ∷ bs) [] v = zero_ℚ
coefficient_of (b ∷ bs) (a ∷ row) v = cond (b == v) a (coefficient_of bs row v)

-- minus the coefficients of the program's slacks in a row, whose variables are counted from v on, and 1 for the row's own variable
abbrev pub weights_of : {A : Type 0} → List ℕ → List ℚ → ℕ → ℕ → List A → List ℚ
weights_of vs row own v [] = []
weights_of vs row own v (r ∷ rs) = cond (own == v) (whole_ℚ (pos 1)) (neg_ℚ (coefficient_of vs row v)) ∷ weights_of vs row own (v + 1) rs

-- by the objective's coefficients; no slack has the number 2 n + m, so that none is its own
abbrev pub objective_weights : Program → Table → List ℚ
objective_weights p t =
    let n = length p.costs.items in
    weights_of t.nonbasic (coefficients_of (objective_of t)) (n + length p.rows.items + n) n p.rows.items

-- by the coefficients of the row at place i
abbrev pub row_weights : Program → Table → ℕ → List ℚ
row_weights p t i = weights_of t.nonbasic (coefficients_of (row_at t i)) (get_or t.basic i 0) (length p.costs.items) p.rows.items

-- ---- the weights as whole numbers
-- the least common multiple of q and the denominators, folded from row i on
abbrev pub common_denominator : ℕ → ℕ → List ℚ → Result ℕ Place
common_denominator i q [] = Ok q
common_denominator i q (w ∷ ws) = cond (nat_lt (lcm_of q w.den) (2 ^ 127)) (common_denominator (i + 1) (lcm_of q w.den) ws) (Err (place_at Kind.Lcm i 0))

-- a weight of 0 is left out
abbrev pub with_weight : ℕ → ℤ → List Weight → List Weight
with_weight i z ws = cond (unsigned_abs z == 0) ws (record { row = i; by = z } ∷ ws)

-- q times each weight, from row i on
abbrev pub whole_weights : ℕ → ℕ → List ℚ → Result (List Weight) Place
whole_weights i q [] = Ok []
whole_weights i q (w ∷ ws) =
    let z = w.num *ℤ pos (q / w.den) in
    cond (is_within z) (then_ok (whole_weights (i + 1) q ws) (λ rest. Ok (with_weight i z rest))) (Err (place_at Kind.Lcm i 0))

-- the end, or the place at which weighing leaves the range
abbrev pub when_weighed : Result ℤ WeighFault → End → End
when_weighed (Ok z) e = e
when_weighed (Err (Past j)) e = past (place_at Kind.Weigh 0 j)
when_weighed (Err (Negative i)) e = e

-- ---- the point
-- the value of a variable, by the basic places' variables: the constant of its row, and 0 where it is nonbasic
abbrev pub value_at : List ℕ → List (List ℚ) → ℕ → ℚ
value_at [] rows v = zero_ℚ
value_at (b ∷ bs) [] v = zero_ℚ
value_at (b ∷ bs) (row ∷ rows) v = cond (b == v) (constant_of row) (value_at bs rows v)

-- the coordinates from column j on, by costs, lower and upper bounds: the variable's value, from the bound at which the column started
abbrev pub point_from : List ℕ → List (List ℚ) → ℕ → List ℤ → List ℤ → List ℤ → Result (List ℚ) Place
point_from bs rows j [] ls us = Ok []
point_from bs rows j (c ∷ cs) [] us = Ok []
point_from bs rows j (c ∷ cs) (l ∷ ls) [] = Ok []
point_from bs rows j (c ∷ cs) (l ∷ ls) (u ∷ us) =
    then_ok (or_place (cond (lt_z (pos 0) c) (checked_difference (whole_ℚ u) (value_at bs rows j)) (checked_sum (whole_ℚ l) (value_at bs rows j))) Kind.Point 0 j)
    (λ x. then_ok (point_from bs rows (j + 1) cs ls us) (λ xs. Ok (x ∷ xs)))

-- ---- the ends
-- the common denominator, the whole weights and the end that they make, weighed with q for the end's multiplier
abbrev pub weighted_end : Program → Bounds → List ℚ → (ℕ → ℤ) → (ℤ → List Weight → End) → End
weighted_end p b ws multiplier done =
    then_end (common_denominator 0 1 ws) (λ q. then_end (whole_weights 0 q ws) (λ ys. when_weighed (weigh_answer p b (multiplier q) ys) (done (multiplier q) ys)))

-- whether the floor of the objective's constant is at most the best objective known
abbrev pub is_cut : Table → ℕ → Bool
is_cut t known = le_z (floor_ℚ (constant_of (objective_of t))) (pos known)

abbrev pub cut_end : Program → Bounds → Table → End
cut_end p b t = weighted_end p b (objective_weights p t) pos cut

abbrev pub best_end : Program → Bounds → Table → End
best_end p b t =
    then_end (point_from t.basic t.rows 0 p.costs.items b.lower b.upper) (λ point. weighted_end p b (objective_weights p t) pos (best point))

-- by the row at place i, with the multiplier 0
abbrev pub empty_end : Program → Bounds → Table → ℕ → End
empty_end p b t i = weighted_end p b (row_weights p t i) (λ q. pos 0) (λ q ys. empty ys)
