-- Rows of fractions as whole numbers over one denominator.
use Rattle.std.proofs.Common.{◌≡◌, ℕ, ◌+◌, ◌*◌, ◌<◌, ◌≤◌, refl, sym, ap, ◌∙◌, subst, arith, List, [], ◌∷◌, ◌++◌, length, get_or, map, take, Option, Some, None}
use Prim.Native.Nat.{zero, suc}
use Rattle.std.specs.Prelude.{unsigned_abs, IfSome, All}
use Rattle.std.proofs.lemmas.List.{map-append, length-map, take_more, take_all, get_or-map}
use lib.IntN.{ℤ, pos, ◌*ℤ◌}
use Rattle.tetri_algebra.specs.Integers.{abs_of_positive, abs_positive}
use Rattle.tetri_algebra.specs.RingSolver.{var, num, ring, ◌⊗◌}
use Rattle.tetri_algebra.specs.IntegerRing.{ℤ_ring}
use Rattle.tetri_algebra.specs.Rational.{ℚ, fraction, whole_ℚ, fraction_is, fraction-cross, fraction-one}
use Rattle.tetri_algebra.specs.RationalRing.{◌*ℚ◌, zero_ℚ, num-whole_ℚ, den-whole_ℚ, mul_fraction_right}
use Rattle.tetri_num.specs.declared.fractions.Frac.{Frac}
use Rattle.tetri_num.specs.Frac.{value}
use Rattle.tetri_rows.specs.Small.{IsShort, IsDenominator}
use Rattle.tetri_rows.specs.Rows.{meaning}

-- what the product with a denominator is tells the number over it
over_number : (n d : ℤ) (p : ℚ) → IsDenominator d → fraction n 1 ≡ p *ℚ whole_ℚ d → fraction n (unsigned_abs d) ≡ p
over_number n d p h e =
    let one : p.den * 1 ≡ p.den = omega arith in
    let w : fraction (p.num *ℤ d) (p.den * 1) ≡ whole_ℚ n = sym (sym (fraction-one n) ∙ e ∙ ap (λ q. p *ℚ q) (sym (fraction-one d)) ∙ mul_fraction_right p d 1 (omega arith)) in
    let c = fraction-cross (p.num *ℤ d) (p.den * 1) (subst (λ k. 0 < k) (sym one) p.positive) in
    let fn : (fraction (p.num *ℤ d) (p.den * 1)).num ≡ n = ap (λ (q : ℚ). q.num) w ∙ num-whole_ℚ n in
    let fd : (fraction (p.num *ℤ d) (p.den * 1)).den ≡ 1 = ap (λ (q : ℚ). q.den) w ∙ den-whole_ℚ n in
    fraction_is n (unsigned_abs d) p (abs_positive d h.positive)
    (ap (λ z. p.num *ℤ z) (abs_of_positive d h.positive)
    ∙ ring ℤ_ring (p.num ∷ d ∷ []) (var 0 ⊗ var 1) ((var 0 ⊗ var 1) ⊗ num (pos 1)) refl
    ∙ ap (λ k. (p.num *ℤ d) *ℤ pos k) (sym fd) ∙ sym c ∙ ap (λ z. z *ℤ pos (p.den * 1)) fn ∙ ap (λ k. n *ℤ pos k) one)

pub over_value : (o : Option ℤ) (d d' : ℤ) (p q : ℚ) → IsDenominator d → d' ≡ d → q ≡ p *ℚ whole_ℚ d' → IfSome o (λ n. fraction n 1 ≡ q) → IfSome o (λ n. fraction n (unsigned_abs d) ≡ p)
over_value None d d' p q h de e m = m
over_value (Some n) d d' p q h de e m = over_number n d p h (m ∙ e ∙ ap (λ z. p *ℚ whole_ℚ z) de)

-- ---- the row, number by number
pub numbers_next : (d d' n n' : ℤ) (row : List Frac) (k : ℕ) (done made : List ℤ) (x : Frac) → d' ≡ d → n' ≡ n → k < length row → made ≡ done ++ (n' ∷ []) → x ≡ get_or row k x → fraction n (unsigned_abs d') ≡ value x → meaning d done ≡ take k (map value row) →
    meaning d made ≡ take (k + 1) (map value row)
numbers_next d d' n n' row k done made x de en l me xe ne h =
    let m : k < length (map value row) = subst (λ z. k < z) (sym (length-map row value)) l in
    ap (meaning d) me ∙ map-append (λ z. fraction z (unsigned_abs d)) done (n' ∷ []) ∙ ap (λ zs. zs ++ (fraction n' (unsigned_abs d) ∷ [])) h
    ∙ ap (λ z. take k (map value row) ++ (z ∷ []))
    (ap (λ z. fraction n' (unsigned_abs z)) (sym de) ∙ ap (λ z. fraction z (unsigned_abs d')) en ∙ ne ∙ ap value xe ∙ sym (get_or-map value row k x zero_ℚ l))
    ∙ sym (take_more (map value row) k zero_ℚ m)

pub numbers_done : (d e : ℤ) (row : List Frac) (k : ℕ) (made : List ℤ) → d ≡ e → length row ≤ k → meaning d made ≡ take k (map value row) → meaning e made ≡ map value row
numbers_done d e row k made de l h = ap (λ z. meaning z made) (sym de) ∙ h ∙ take_all k (map value row) (subst (λ z. z ≤ k) (sym (length-map row value)) l)

all_short : (n : ℤ) (done : List ℤ) → IsShort n → All IsShort done → All IsShort (done ++ (n ∷ []))
all_short n [] s h zero d l = s
all_short n [] s h (suc k) d l = absurd (omega arith)
all_short n (x ∷ xs) s h zero d l = h 0 d (omega arith)
all_short n (x ∷ xs) s h (suc k) d l = all_short n xs s (λ q e m. h (suc q) e (omega arith)) k d (omega arith)

pub short_next : (n n' : ℤ) (done made : List ℤ) → n' ≡ n → made ≡ done ++ (n' ∷ []) → IsShort n → All IsShort done → All IsShort made
short_next n n' done made en me s h = subst (λ zs. All IsShort zs) (sym me) (all_short n' done (subst IsShort (sym en) s) h)
