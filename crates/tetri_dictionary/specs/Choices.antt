-- Which variables leave and enter: Bland's rule, the least variable that may.
use Rattle.std.specs.Prelude.{ℕ, ◌+◌, List, [], ◌∷◌, get_or, Bool, true, false, cond, not, ◌&&◌, nat_lt, Option, Some, None, Result, Ok}
use Rattle.tetri_algebra.specs.Rational.{ℚ}
use Rattle.tetri_algebra.specs.RationalRing.{neg_ℚ}
use Rattle.tetri_num.specs.Checked.{checked_quotient}
use Rattle.tetri_num.specs.declared.places.Kind.TheVariants as Kind
use Rattle.tetri_num.specs.declared.places.Place.{Place}
use Rattle.tetri_dictionary.specs.Tables.{Table, row_at, objective_of, constant_of, coefficients_of, is_negative, is_positive, is_less}
use Rattle.tetri_dictionary.specs.Steps.{or_place}
use Rattle.tetri_base.specs.ResultSteps.{then_ok}

-- ---- the leaving place
-- the place of the lesser variable: the best so far, or place k
abbrev pub lesser_place : List ℕ → Option ℕ → ℕ → Option ℕ
lesser_place vs None k = Some k
lesser_place vs (Some b) k = cond (nat_lt (get_or vs k 0) (get_or vs b 0)) (Some k) (Some b)

-- of the basic places from k on with a constant below 0
abbrev pub leaving_from : List ℕ → ℕ → List ℕ → List (List ℚ) → Option ℕ → Option ℕ
leaving_from vs k [] rows best = best
leaving_from vs k (b ∷ bs) [] best = best
leaving_from vs k (b ∷ bs) (row ∷ rows) best = leaving_from vs (k + 1) bs rows (cond (is_negative (constant_of row)) (lesser_place vs best k) best)

-- the basic place that leaves: of those with a constant below 0 the one with the least variable
unfoldable pub leaving : Table → Option ℕ
leaving t = leaving_from t.basic 0 t.basic t.rows None

-- ---- the entering place
-- the place with the lesser ratio, at a tie with the lesser variable: the best so far, or place k with ratio x
abbrev pub lesser_ratio : List ℕ → Option (ℕ × ℚ) → ℕ → ℚ → Option (ℕ × ℚ)
lesser_ratio vs None k x = Some (k, x)
lesser_ratio vs (Some b) k x = cond (is_less x b.1) (Some (k, x)) (cond (not (is_less b.1 x) && nat_lt (get_or vs k 0) (get_or vs b.0 0)) (Some (k, x)) (Some b))

-- of the nonbasic places from k on with a coefficient above 0 in the leaving row i; the ratio is that of minus the objective's coefficient to it
abbrev pub entering_from : List ℕ → ℕ → ℕ → List ℚ → List ℚ → Option (ℕ × ℚ) → Result (Option (ℕ × ℚ)) Place
entering_from vs i k [] ds best = Ok best
entering_from vs i k (a ∷ more) [] best = Ok best
entering_from vs i k (a ∷ more) (d ∷ ds) best =
    cond (is_positive a)
    (then_ok (or_place (checked_quotient (neg_ℚ d) a) Kind.Ratio i k) (λ x. entering_from vs i (k + 1) more ds (lesser_ratio vs best k x)))
    (entering_from vs i (k + 1) more ds best)

-- the nonbasic place that enters for the leaving row i, with its ratio
unfoldable pub entering : Table → ℕ → Result (Option (ℕ × ℚ)) Place
entering t i = entering_from t.nonbasic i 0 (coefficients_of (row_at t i)) (coefficients_of (objective_of t)) None

-- whether a coefficient is above 0
abbrev pub has_positive : List ℚ → Bool
has_positive [] = false
has_positive (a ∷ more) = cond (is_positive a) true (has_positive more)
