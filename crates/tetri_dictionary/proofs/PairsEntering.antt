-- The variable that enters in dictionaries that keep one row for the two variables of a column.
use Rattle.std.proofs.Common.{◌≡◌, ℕ, ◌+◌, ◌-◌, refl, sym, ap, ◌∙◌, arith, List, [], ◌∷◌, length, get_or, map, Option, None, Ok, cond, ◌==◌}
use Prim.Native.Nat.{zero, suc}
use lib.IntN.{ℤ}
use Rattle.tetri_algebra.specs.Rational.{ℚ}
use Rattle.tetri_algebra.specs.RationalRing.{neg_ℚ}
use Rattle.tetri_num.specs.declared.places.Kind.TheVariants as Kind
use Rattle.tetri_num.specs.Checked.{checked_quotient}
use Rattle.tetri_base.specs.ResultSteps.{then_ok}
use Rattle.tetri_dictionary.specs.declared.mixed.MixedRow.{MixedRow}
use Rattle.tetri_dictionary.specs.declared.origins.Origin.TheVariants.{Kept}
use Rattle.tetri_dictionary.specs.declared.pairs.Pairs.{Pairs}
use Rattle.tetri_dictionary.specs.Choices.{entering, entering_from, lesser_ratio}
use Rattle.tetri_dictionary.specs.Mirrors.{mirror, one_at, variable_row}
use Rattle.tetri_dictionary.specs.Mixed.{mixed_row, mixed_rows}
use Rattle.tetri_dictionary.specs.Pairs.{table_of, IsPaired}
use Rattle.tetri_dictionary.specs.Steps.{or_place}
use Rattle.tetri_dictionary.specs.Tables.{Table, row_at, objective_of, coefficients_of}
use Rattle.tetri_dictionary.proofs.MirrorPlaces.{column_sign, row_at_origin}
use Rattle.tetri_dictionary.proofs.MixedPivots.{mixed_read}

pub objective_is : (t : Pairs) (k : ℕ) (r : MixedRow) → IsPaired t → k ≡ length t.rows.items - 1 → r ≡ get_or t.rows.items k r → objective_of (table_of t) ≡ mixed_row r
objective_is t k r h e g =
    let m = h.some in
    row_at_origin (length t.nonbasic.items) (mixed_rows t.rows.items) t.origins.items (length t.basic.items) (Kept (length t.rows.items - 1)) (omega (arith, h.origins.count)) h.origins.objective
    ∙ ap (λ j. get_or (mixed_rows t.rows.items) j []) (sym e) ∙ mixed_read t.rows.items k r (omega (arith, e, m)) g

-- by the rows that the code reads
pub entering_by : (t : Table) (i : ℕ) (vs : List ℕ) (row objective : List ℚ) → vs ≡ t.nonbasic → row_at t i ≡ row → objective_of t ≡ objective → entering_from vs i 0 (coefficients_of row) (coefficients_of objective) None ≡ entering t i
unfolding entering
entering_by t i vs row objective v e f =
    ap (λ (us : List ℕ). entering_from us i 0 (coefficients_of row) (coefficients_of objective) None) v
    ∙ ap (λ (xs : List ℚ). entering_from t.nonbasic i 0 (coefficients_of xs) (coefficients_of objective) None) (sym e)
    ∙ ap (λ (xs : List ℚ). entering_from t.nonbasic i 0 (coefficients_of (row_at t i)) (coefficients_of xs) None) (sym f)

none_from : (vs : List ℕ) (i k p j n : ℕ) (ds : List ℚ) (best : Option (ℕ × ℚ)) → entering_from vs i k (map neg_ℚ (one_at p j n)) ds best ≡ Ok best
none_from vs i k p j zero ds best = refl
none_from vs i k p j (suc n) [] best = refl
none_from vs i k p j (suc n) (d ∷ ds) best =
    let cs = map neg_ℚ (one_at p (j + 1) n) in
    ap (λ z. cond z (then_ok (or_place (checked_quotient (neg_ℚ d) (get_or (map neg_ℚ (one_at p j (suc n))) 0 d)) Kind.Ratio i k) (λ x. entering_from vs i (k + 1) cs ds (lesser_ratio vs best k x))) (entering_from vs i (k + 1) cs ds best)) (column_sign (p == j))
    ∙ none_from vs i (k + 1) p (j + 1) n ds best

-- none enters where the width less a variable leaves
pub column_enters : (vs : List ℕ) (i n p : ℕ) (w : ℤ) (objective : List ℚ) → entering_from vs i 0 (coefficients_of (mirror w (variable_row n p))) (coefficients_of objective) None ≡ Ok None
column_enters vs i n p w objective = none_from vs i 0 p 0 n (coefficients_of objective) None
