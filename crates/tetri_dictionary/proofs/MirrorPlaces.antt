-- The width less a row, and the rows of places by the rows that are kept.
use Rattle.std.proofs.Common.{◌≡◌, ℕ, ◌+◌, ◌<◌, ◌≤◌, refl, sym, ap, ◌∙◌, subst, arith, List, [], ◌∷◌, length, get_or, map, Bool, true, false, cond, ◌==◌, eq-eqb}
use Rattle.std.proofs.lemmas.Bool.{ne_eqb}
use Prim.Native.Nat.{zero, suc}
use Rattle.std.specs.Prelude.{All, ◌<ℤ◌}
use Rattle.std.proofs.lemmas.List.{length-map, get_or-map}
use lib.IntN.{ℤ, pos, negsuc, neg_ℤ}
use lib.Signed.{lt_z}
use mir.Val.{to_z, of_z}
use mir.Syntax.{w64}
use Rattle.std.proofs.lemmas.Int.{ints}
use Rattle.tetri_algebra.specs.Rational.{ℚ, whole_ℚ, same_parts}
use Rattle.tetri_algebra.specs.RingSolver.{var, nil, minus, ring, ◌⊕◌}
use Rattle.tetri_algebra.specs.RationalRing.{◌+ℚ◌, zero_ℚ, neg_ℚ, num-neg_ℚ, den-neg_ℚ, num-whole_ℚ, den-whole_ℚ, ℚ_ring}
use Rattle.tetri_rows.specs.Rows.{meaning}
use Rattle.tetri_rows.specs.Small.{IsSmall}
use Rattle.tetri_rows.proofs.RowLaws.{from_test, same_test, small_numbers, test_of, word}
use Rattle.tetri_dictionary.specs.declared.mixed.MixedRow.{MixedRow}
use Rattle.tetri_dictionary.specs.declared.mixed.MixedRow.TheVariants.{Whole, Fractions}
use Rattle.tetri_dictionary.specs.declared.origins.Origin.{Origin}
use Rattle.tetri_dictionary.specs.declared.origins.Origin.TheVariants.{Kept}
use Rattle.tetri_dictionary.specs.Choices.{has_positive}
use Rattle.tetri_dictionary.specs.Mirrors.{mirror, one_at, variable_row, row_from, rows_from, IsOrigin, IsBounded, IsWidth}
use Rattle.tetri_dictionary.specs.Mixed.{mixed_row, mixed_rows}
use Rattle.tetri_dictionary.specs.Pairs.{origin_at, IsWholeRow}
use Rattle.tetri_dictionary.specs.Tables.{coefficients_of, is_positive, is_negative}
use Rattle.tetri_dictionary.proofs.LessNumbers.{width_below}
use Rattle.tetri_dictionary.proofs.MirrorRows.{length-variable}
use Rattle.tetri_dictionary.proofs.MixedPivots.{mixed_read}

-- ---- numbers
pub mirror_constant : (w : ℤ) (row : List ℚ) → 0 < length row → get_or (mirror w row) 0 zero_ℚ ≡ whole_ℚ w +ℚ neg_ℚ (get_or row 0 zero_ℚ)
mirror_constant w [] h = absurd (omega arith)
mirror_constant w (c ∷ more) h = refl

pub mirror_coefficient : (w : ℤ) (row : List ℚ) (k : ℕ) → suc k < length row → get_or (mirror w row) (suc k) zero_ℚ ≡ neg_ℚ (get_or row (suc k) zero_ℚ)
mirror_coefficient w [] k h = absurd (omega arith)
mirror_coefficient w (c ∷ more) k h = get_or-map neg_ℚ more k zero_ℚ zero_ℚ (omega arith)

one_at_get : (p k n q : ℕ) → q < n → get_or (one_at p k n) q zero_ℚ ≡ cond (p == k + q) (whole_ℚ (pos 1)) zero_ℚ
one_at_get p k zero q h = absurd (omega arith)
one_at_get p k (suc n) zero h = let e : k ≡ k + 0 = omega arith in ap (λ m. cond (p == m) (whole_ℚ (pos 1)) zero_ℚ) e
one_at_get p k (suc n) (suc q) h = let e : (k + 1) + q ≡ k + suc q = omega arith in one_at_get p (k + 1) n q (omega arith) ∙ ap (λ m. cond (p == m) (whole_ℚ (pos 1)) zero_ℚ) e

pub variable_coefficient : (n p q : ℕ) → q < n → get_or (variable_row n p) (suc q) zero_ℚ ≡ cond (p == q) (whole_ℚ (pos 1)) zero_ℚ
variable_coefficient n p q h = let e : 0 + q ≡ q = omega arith in one_at_get p 0 n q h ∙ ap (λ m. cond (p == m) (whole_ℚ (pos 1)) zero_ℚ) e

-- ---- rows of short whole numbers are bounded
small_is_bounded : (p : ℚ) → IsSmall p → IsBounded p
small_is_bounded p h = record { num = omega (arith, h.num); den = omega (arith, h.den) }

pub whole_is_bounded : (n : ℕ) (r : MixedRow) → IsWholeRow n r → All IsBounded (mixed_row r)
whole_is_bounded n (Whole den numbers) h q d l = small_is_bounded (get_or (meaning den numbers.items) q d) (small_numbers den numbers.items h.over h.short q d l)
whole_is_bounded n (Fractions numbers) h q d l = absurd h

pub whole_are_bounded : (n : ℕ) (rows : List MixedRow) → All (IsWholeRow n) rows → All (All IsBounded) (mixed_rows rows)
whole_are_bounded n [] h q d l = absurd (omega arith)
whole_are_bounded n (r ∷ rows) h zero d l = whole_is_bounded n r (h 0 r (omega arith))
whole_are_bounded n (r ∷ rows) h (suc q) d l = whole_are_bounded n rows (λ k e m. h (suc k) e (omega arith)) q d (omega arith)

-- ---- signs
negated_sign : (q : ℚ) → is_positive (neg_ℚ q) ≡ is_negative q
negated_sign q = ap (λ z. lt_z (pos 0) z) (num-neg_ℚ q) ∙ other q.num
  where
    below : (z : ℤ) → pos 0 <ℤ neg_ℤ z → z <ℤ pos 0
    below z h = omega (arith, ints)

    above : (z : ℤ) → z <ℤ pos 0 → pos 0 <ℤ neg_ℤ z
    above z h = omega (arith, ints)

    other : (z : ℤ) → lt_z (pos 0) (neg_ℤ z) ≡ lt_z z (pos 0)
    other z = same_test _ _ (λ e. test_of z (pos 0) (below z (from_test (pos 0) (neg_ℤ z) e))) (λ e. test_of (pos 0) (neg_ℤ z) (above z (from_test z (pos 0) e)))

pub mirror_sign : (w : ℤ) (row : List ℚ) (k : ℕ) → k + 1 < length row → is_positive (get_or (mirror w row) (k + 1) zero_ℚ) ≡ is_negative (get_or row (k + 1) zero_ℚ)
mirror_sign w row k h =
    let s : k + 1 ≡ suc k = omega arith in
    ap (λ j. is_positive (get_or (mirror w row) j zero_ℚ)) s ∙ ap is_positive (mirror_coefficient w row k (omega arith)) ∙ negated_sign (get_or row (suc k) zero_ℚ) ∙ ap (λ j. is_negative (get_or row j zero_ℚ)) (sym s)

whole_sign : (z : ℤ) → is_positive (neg_ℚ (whole_ℚ z)) ≡ lt_z z (pos 0)
whole_sign z = negated_sign (whole_ℚ z) ∙ ap (λ y. lt_z y (pos 0)) (num-whole_ℚ z)

pub column_sign : (t : Bool) → is_positive (neg_ℚ (cond t (whole_ℚ (pos 1)) zero_ℚ)) ≡ false
column_sign true = whole_sign (pos 1)
column_sign false = whole_sign (pos 0)

-- the width less a variable has no coefficient above 0
pub column_falls : (w : ℤ) (n p : ℕ) → has_positive (coefficients_of (mirror w (variable_row n p))) ≡ false
column_falls w n p = from p 0 n
  where
    from : (p k n : ℕ) → has_positive (map neg_ℚ (one_at p k n)) ≡ false
    from p k zero = refl
    from p k (suc n) = ap (λ t. cond t true (has_positive (map neg_ℚ (one_at p (k + 1) n)))) (column_sign (p == k)) ∙ from p (k + 1) n

-- ---- the numbers of the width less a variable
pub neg_whole : (z : ℤ) → neg_ℚ (whole_ℚ z) ≡ whole_ℚ (neg_ℤ z)
neg_whole z =
    same_parts (neg_ℚ (whole_ℚ z)) (whole_ℚ (neg_ℤ z)) (num-neg_ℚ (whole_ℚ z) ∙ ap neg_ℤ (num-whole_ℚ z) ∙ sym (num-whole_ℚ (neg_ℤ z)))
    (den-neg_ℚ (whole_ℚ z) ∙ den-whole_ℚ z ∙ sym (den-whole_ℚ (neg_ℤ z)))

pub column_constant : (w v : ℤ) (x : ℚ) (n p k : ℕ) → x ≡ whole_ℚ v → v ≡ w → k ≡ 0 → x ≡ get_or (mirror w (variable_row n p)) k zero_ℚ
column_constant w v x n p k xe e f =
    xe ∙ ap whole_ℚ e ∙ ring ℚ_ring (whole_ℚ w ∷ []) (var 0) (var 0 ⊕ minus nil) refl ∙ ap (λ j. get_or (mirror w (variable_row n p)) j zero_ℚ) (sym f)

column_number : (w : ℤ) (n p q : ℕ) → q < n → get_or (mirror w (variable_row n p)) (suc q) zero_ℚ ≡ neg_ℚ (cond (p == q) (whole_ℚ (pos 1)) zero_ℚ)
column_number w n p q h =
    let e = length-variable n p in
    mirror_coefficient w (variable_row n p) q (omega (arith, e, h)) ∙ ap neg_ℚ (variable_coefficient n p q h)

pub column_own : (w : ℤ) (x : ℚ) (n p k : ℕ) → x ≡ whole_ℚ (negsuc 0) → p < n → k ≡ p + 1 → x ≡ get_or (mirror w (variable_row n p)) k zero_ℚ
column_own w x n p k xe h f =
    let s : p + 1 ≡ suc p = omega arith in
    xe ∙ sym (neg_whole (pos 1)) ∙ ap (λ t. neg_ℚ (cond t (whole_ℚ (pos 1)) zero_ℚ)) (sym (eq-eqb p p refl)) ∙ sym (column_number w n p p h) ∙ ap (λ j. get_or (mirror w (variable_row n p)) j zero_ℚ) (sym (f ∙ s))

pub column_other : (w : ℤ) (x : ℚ) (n p k : ℕ) → x ≡ whole_ℚ (pos 0) → k ≤ n → (k ≡ 0 → ⊥) → (k ≡ p + 1 → ⊥) → x ≡ get_or (mirror w (variable_row n p)) k zero_ℚ
column_other w x n p zero xe h f g = absurd (f refl)
column_other w x n p (suc q) xe h f g =
    xe ∙ sym (neg_whole (pos 0)) ∙ ap (λ t. neg_ℚ (cond t (whole_ℚ (pos 1)) zero_ℚ)) (sym (ne_eqb p q (λ e. g (behind p q e)))) ∙ sym (column_number w n p q (omega (arith, h)))
  where
    behind : (p q : ℕ) → p ≡ q → suc q ≡ p + 1
    behind p q e = omega arith

pub width_short : (w : ℤ) → IsWidth w → to_z w64 (of_z w64 w) ≡ w
width_short w h = let b = width_below w h in word w (omega (arith, b))

-- ---- the row of a place
pub row_of_place : (n : ℕ) (rows : List (List ℚ)) (origins : List Origin) (i : ℕ) (o x : Origin) → i < length origins → o ≡ get_or origins i o → o ≡ x → get_or (rows_from n rows origins) i [] ≡ row_from n rows x
row_of_place n rows origins i o x h e f = get_or-map (row_from n rows) origins i o [] h ∙ ap (row_from n rows) (sym e ∙ f)

pub origin_of_place : (n m : ℕ) (origins : List Origin) (i : ℕ) (o x : Origin) → All (IsOrigin n m) origins → i < length origins → o ≡ get_or origins i o → o ≡ x → IsOrigin n m x
origin_of_place n m origins i o x a h e f = subst (λ (y : Origin). IsOrigin n m y) (sym e ∙ f) (a i o h)

pub bounded_row : (rows : List MixedRow) (k : ℕ) (r : MixedRow) → All (All IsBounded) (mixed_rows rows) → k < length rows → r ≡ get_or rows k r → All IsBounded (mixed_row r)
bounded_row rows k r a h e = subst (λ xs. All IsBounded xs) (mixed_read rows k r h e) (a k [] (subst (λ z. k < z) (sym (length-map rows mixed_row)) h))

pub row_at_origin : (n : ℕ) (rows : List (List ℚ)) (origins : List Origin) (i : ℕ) (x : Origin) → i < length origins → origin_at origins i ≡ x → get_or (rows_from n rows origins) i [] ≡ row_from n rows x
row_at_origin n rows origins i x h e = get_or-map (row_from n rows) origins i (Kept 0) [] h ∙ ap (row_from n rows) e
