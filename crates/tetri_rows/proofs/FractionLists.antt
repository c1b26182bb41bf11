-- The numbers of a row as a list of fractions.
use Rattle.std.proofs.Common.{◌≡◌, ℕ, ◌+◌, ◌<◌, ◌≤◌, sym, ap, ◌∙◌, subst, arith, List, [], ◌∷◌, ◌++◌, length, get_or, map, take}
use Rattle.std.specs.Prelude.{unsigned_abs, Option, None, Some, MatchOption, IfSome}
use Rattle.std.proofs.lemmas.List.{map-append, length-map, take_more, take_all}
use Rattle.std.proofs.lemmas.Int.{to_z-of_z, fits_signed_from_abs}
use lib.IntN.{ℤ, pos, ◌*ℤ◌}
use mir.Val.{to_z, of_z}
use mir.Syntax.{w128}
use Rattle.tetri_algebra.specs.Rational.{fraction, fraction_is}
use Rattle.tetri_algebra.specs.RationalRing.{zero_ℚ}
use Rattle.tetri_num.specs.declared.fractions.Frac.{Frac}
use Rattle.tetri_num.specs.Frac.{value}
use Rattle.tetri_algebra.specs.Range.{IsWithin}
use Rattle.tetri_num.proofs.FractionLaws.{num-value, den-value}
use Rattle.tetri_rows.specs.Rows.{meaning}

pub fractions_next : (d e : ℤ) (row : List ℤ) (k : ℕ) (done made : List Frac) (y : Frac) → d ≡ e → k < length row → made ≡ done ++ (y ∷ []) → value y ≡ get_or (meaning e row) k zero_ℚ → map value done ≡ take k (meaning d row) →
    map value made ≡ take (k + 1) (meaning d row)
fractions_next d e row k done made y de l me ye h =
    let m : k < length (meaning d row) = subst (λ z. k < z) (sym (length-map row (λ n. fraction n (unsigned_abs d)))) l in
    ap (map value) me ∙ map-append value done (y ∷ []) ∙ ap (λ zs. zs ++ (value y ∷ [])) h ∙ ap (λ z. take k (meaning d row) ++ (z ∷ [])) (ye ∙ ap (λ z. get_or (meaning z row) k zero_ℚ) (sym de))
    ∙ sym (take_more (meaning d row) k zero_ℚ m)

pub fractions_done : (d e : ℤ) (row : List ℤ) (k : ℕ) (made : List Frac) → d ≡ e → length row ≤ k → map value made ≡ take k (meaning d row) → map value made ≡ meaning e row
fractions_done d e row k made de l h =
    h ∙ take_all k (meaning d row) (subst (λ z. z ≤ k) (sym (length-map row (λ n. fraction n (unsigned_abs d)))) l) ∙ ap (λ z. meaning z row) de

-- ---- a whole number among the fractions
pub wide_number : (z : ℤ) → IsWithin z → to_z w128 (of_z w128 z) ≡ z
wide_number z h = to_z-of_z w128 z (fits_signed_from_abs w128 z h)

pub whole_value : (x : Frac) (n : ℤ) → n ≡ x.num → x.den ≡ pos 1 → fraction n 1 ≡ value x
whole_value x n ne de =
    fraction_is n 1 (value x) (omega arith) (ap (λ z. z *ℤ pos 1) (num-value x ∙ sym ne) ∙ ap (λ z. n *ℤ z) (sym (den-value x ∙ de)))

pub short_whole : (x : Frac) (z : ℤ) (o : Option ℤ) (P : Type 0) → z ≡ x.num → x.den ≡ pos 1 → MatchOption o P (λ n. n ≡ z) → IfSome o (λ n. fraction n 1 ≡ value x)
short_whole x z None P ze de h = tt
short_whole x z (Some n) P ze de h = whole_value x n (h ∙ ze) de
