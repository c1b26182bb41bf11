-- The rational numbers: a numerator and a denominator in lowest terms, so that equal ones are one value.
use Rattle.std.proofs.Common.{◌≡◌, ℕ, ◌*◌, ◌/◌, ◌<◌, refl, sym, ap, ◌∙◌, arith, [], ◌∷◌}
use Prim.Native.Nat.{zero, suc}
use mathlib.Core.HLevel.{Σ_prop_path, ×_prop}
use Rattle.std.proofs.Math.Nat.{ℕ_set, mul-div_cancel', div-mul_cancel, pos_of_dvd_of_pos, mul_comm}
use Rattle.std.proofs.Math.Bridge.{le_prop}
use Rattle.std.proofs.lemmas.Int.{unsigned_abs-mul}
use Rattle.std.specs.Prelude.{unsigned_abs, int_div}
use lib.IntN.{ℤ, pos, ◌*ℤ◌}
use Rattle.tetri_algebra.specs.Gcd.{gcd_of}
use Rattle.tetri_algebra.specs.Coprime.{IsGcd-gcd_of, coprime_parts, same_den, gcd_of-one}
use Rattle.tetri_algebra.specs.Integers.{*ℤ_cancel_right}
use Rattle.tetri_algebra.specs.Quotients.{int_div-mul}
use Rattle.tetri_algebra.specs.RingSolver.{var, ring, ◌⊗◌}
use Rattle.tetri_algebra.specs.IntegerRing.{ℤ_ring}

-- a rational number
pub record ℚ : Type 0 where
  pub num : ℤ
  pub den : ℕ
  pub positive : 0 < den
  pub lowest : gcd_of (unsigned_abs num) den ≡ 1

-- ---- equality
record Pair : Type 0 where
  num : ℤ
  den : ℕ

abbrev IsLowest : Pair → Type 0
IsLowest p = (0 < p.den) × (gcd_of (unsigned_abs p.num) p.den ≡ 1)

IsLowest_prop : (p : Pair) → IsProp (IsLowest p)
IsLowest_prop p = ×_prop le_prop (ℕ_set (gcd_of (unsigned_abs p.num) p.den) 1)

abbrev pair_of : ℤ → ℕ → Pair
pair_of n d = record { num = n; den = d }

pair_path : (p q : Pair) → p.num ≡ q.num → p.den ≡ q.den → p ≡ q
pair_path p q e f = ap (λ x. pair_of x p.den) e ∙ ap (λ y. pair_of q.num y) f

abbrev parts_of : ℚ → (p : Pair) × IsLowest p
parts_of p = (pair_of p.num p.den, (p.positive, p.lowest))

abbrev from_parts : (p : Pair) × IsLowest p → ℚ
from_parts p = record { num = p.0.num; den = p.0.den; positive = p.1.0; lowest = p.1.1 }

-- one numerator and one denominator are one number
pub same_parts : (p q : ℚ) → p.num ≡ q.num → p.den ≡ q.den → p ≡ q
same_parts p q e f =
    let s : parts_of p ≡ parts_of q = Σ_prop_path IsLowest_prop (pair_path (pair_of p.num p.den) (pair_of q.num q.den) e f) in
    ap from_parts s

-- equal cross products are one number
pub same_rational : (p q : ℚ) → p.num *ℤ pos q.den ≡ q.num *ℤ pos p.den → p ≡ q
same_rational p q e =
    let a : unsigned_abs p.num * q.den ≡ unsigned_abs q.num * p.den =
    sym (unsigned_abs-mul p.num (pos q.den)) ∙ ap unsigned_abs e ∙ unsigned_abs-mul q.num (pos p.den) in
    let d : p.den ≡ q.den = same_den (unsigned_abs p.num) p.den (unsigned_abs q.num) q.den p.lowest q.lowest a in
    let n : p.num ≡ q.num = *ℤ_cancel_right p.num q.num q.den q.positive (e ∙ ap (λ k. q.num *ℤ pos k) d) in
    same_parts p q n d

-- ---- any numerator over any denominator above 0
positive_quotient : (g k d : ℕ) → g * k ≡ d → 0 < d → 0 < k
positive_quotient g zero d e h = absurd (omega arith)
positive_quotient g (suc k) d e h = omega arith

-- in lowest terms
pub reduced : (n : ℤ) (d : ℕ) → 0 < d → ℚ
reduced n d h =
    let g = gcd_of (unsigned_abs n) d in
    let i = IsGcd-gcd_of (unsigned_abs n) d in
    let e : g * (d / g) ≡ d = mul-div_cancel' g i.1 in
    let f : g * unsigned_abs (int_div n (pos g)) ≡ unsigned_abs n =
    mul_comm g _ ∙ sym (unsigned_abs-mul (int_div n (pos g)) (pos g)) ∙ ap unsigned_abs (int_div-mul n g i.0) in
    let b : gcd_of (g * unsigned_abs (int_div n (pos g))) (g * (d / g)) ≡ g = ap (λ k. gcd_of k (g * (d / g))) f ∙ ap (λ k. gcd_of (unsigned_abs n) k) e in
    record {
      num = int_div n (pos g);
      den = d / g;
      positive = positive_quotient g (d / g) d e h;
      lowest = coprime_parts g (unsigned_abs (int_div n (pos g))) (d / g) (pos_of_dvd_of_pos i.1 h) b;
    }

-- a whole number
unfoldable pub whole_ℚ : ℤ → ℚ
whole_ℚ n = record { num = n; den = 1; positive = omega arith; lowest = gcd_of-one (unsigned_abs n) }

-- the fraction n / d, and 0 where d is 0
unfoldable pub fraction : ℤ → ℕ → ℚ
fraction n zero = whole_ℚ (pos 0)
fraction n (suc d) = reduced n (suc d) (omega arith)

pub fraction-cross : (n : ℤ) (d : ℕ) → 0 < d → (fraction n d).num *ℤ pos d ≡ n *ℤ pos (fraction n d).den
unfolding fraction reduced
fraction-cross n zero h = absurd (omega arith)
fraction-cross n (suc d) h =
    let g = gcd_of (unsigned_abs n) (suc d) in
    let i = IsGcd-gcd_of (unsigned_abs n) (suc d) in
    let e : pos (suc d / g) *ℤ pos g ≡ pos (suc d) = ap pos (div-mul_cancel g i.1) in
    let f = int_div-mul n g i.0 in
    let x = var 0 in let y = var 1 in let z = var 2 in
    ap (λ k. int_div n (pos g) *ℤ k) (sym e)
    ∙ ring ℤ_ring (int_div n (pos g) ∷ pos (suc d / g) ∷ pos g ∷ []) (x ⊗ (y ⊗ z)) ((x ⊗ z) ⊗ y) refl
    ∙ ap (λ k. k *ℤ pos (suc d / g)) f

-- a fraction is the number that has its cross product
pub fraction_is : (n : ℤ) (d : ℕ) (p : ℚ) → 0 < d → p.num *ℤ pos d ≡ n *ℤ pos p.den → fraction n d ≡ p
fraction_is n d p h e =
    let q = fraction n d in
    let c = fraction-cross n d h in
    let x = var 0 in let y = var 1 in let z = var 2 in
    same_rational q p (*ℤ_cancel_right _ _ d h (
    ring ℤ_ring (q.num ∷ pos p.den ∷ pos d ∷ []) ((x ⊗ y) ⊗ z) ((x ⊗ z) ⊗ y) refl
    ∙ ap (λ k. k *ℤ pos p.den) c
    ∙ ring ℤ_ring (n ∷ pos q.den ∷ pos p.den ∷ []) ((x ⊗ y) ⊗ z) ((x ⊗ z) ⊗ y) refl
    ∙ ap (λ k. k *ℤ pos q.den) (sym e)
    ∙ ring ℤ_ring (p.num ∷ pos d ∷ pos q.den ∷ []) ((x ⊗ y) ⊗ z) ((x ⊗ z) ⊗ y) refl))

pub fraction_self : (p : ℚ) → fraction p.num p.den ≡ p
fraction_self p = fraction_is p.num p.den p p.positive refl

-- two fractions with equal cross products are equal
pub same_fraction : (n : ℤ) (d : ℕ) (m : ℤ) (e : ℕ) → 0 < d → 0 < e → n *ℤ pos e ≡ m *ℤ pos d → fraction n d ≡ fraction m e
same_fraction n d m e h k f =
    let q = fraction m e in
    let c = fraction-cross m e k in
    let x = var 0 in let y = var 1 in let z = var 2 in
    fraction_is n d q h (*ℤ_cancel_right _ _ e k (
    ring ℤ_ring (q.num ∷ pos d ∷ pos e ∷ []) ((x ⊗ y) ⊗ z) ((x ⊗ z) ⊗ y) refl
    ∙ ap (λ a. a *ℤ pos d) c
    ∙ ring ℤ_ring (m ∷ pos q.den ∷ pos d ∷ []) ((x ⊗ y) ⊗ z) ((x ⊗ z) ⊗ y) refl
    ∙ ap (λ a. a *ℤ pos q.den) (sym f)
    ∙ ring ℤ_ring (n ∷ pos e ∷ pos q.den ∷ []) ((x ⊗ y) ⊗ z) ((x ⊗ z) ⊗ y) refl))

-- a whole number is the fraction over 1
pub fraction-one : (n : ℤ) → fraction n 1 ≡ whole_ℚ n
unfolding whole_ℚ
fraction-one n = fraction_is n 1 (whole_ℚ n) (omega arith) refl

-- a numerator and a denominator that are coprime stay as they are
pub fraction_parts : (n : ℤ) (d : ℕ) → 0 < d → gcd_of (unsigned_abs n) d ≡ 1 → ((fraction n d).num ≡ n) × ((fraction n d).den ≡ d)
fraction_parts n d h l =
    let p : ℚ = record { num = n; den = d; positive = h; lowest = l } in
    let e : fraction n d ≡ p = fraction_is n d p h refl in
    (ap (λ (x : ℚ). x.num) e, ap (λ (x : ℚ). x.den) e)
