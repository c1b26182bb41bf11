-- The greatest common divisor of two whole numbers, and what is left when it is divided out.
use Rattle.std.proofs.Common.{◌≡◌, ℕ, ◌*◌, ◌/◌, ◌<◌, ◌≤◌, refl, sym, ap, ◌∙◌, subst, arith, [], ◌∷◌}
use Prim.Native.Nat.{zero, suc, ◌∣◌}
use Rattle.std.proofs.Math.Nat.{dvd-mul_right, div-mul_cancel, pos_of_dvd_of_pos, le_of_dvd, div-le_self}
use Rattle.std.proofs.lemmas.Int.{ints}
use Rattle.std.specs.Prelude.{unsigned_abs, int_div, ◌<ℤ◌}
use lib.IntN.{ℤ, pos, negsuc, ◌*ℤ◌}
use Rattle.tetri_algebra.specs.Gcd.{gcd_of}
use Rattle.tetri_algebra.specs.Coprime.{IsGcd-gcd_of, gcd_of-one, parts_coprime}
use Rattle.tetri_algebra.specs.Integers.{abs_positive}
use Rattle.tetri_algebra.specs.Quotients.{abs-int_div, int_div-mul}
use Rattle.tetri_algebra.specs.RingSolver.{var, ring, ◌⊗◌}
use Rattle.tetri_algebra.specs.IntegerRing.{ℤ_ring}
use Rattle.tetri_algebra.specs.Range.{IsWithin}
use Rattle.tetri_num.specs.Forms.{common}
use Rattle.tetri_num.specs.Lowest.{IsLowest}

pub common_above : (a d : ℤ) → pos 0 <ℤ d → 0 < gcd_of (unsigned_abs a) (unsigned_abs d)
common_above a d h = pos_of_dvd_of_pos (IsGcd-gcd_of (unsigned_abs a) (unsigned_abs d)).1 (abs_positive d h)

pub common_positive : (a d : ℤ) → pos 0 <ℤ d → pos 0 <ℤ common a d
common_positive a d h = omega (arith, ints, common_above a d h)

pub common_within : (a d : ℤ) → pos 0 <ℤ d → IsWithin d → IsWithin (common a d)
common_within a d h w =
    let l : gcd_of (unsigned_abs a) (unsigned_abs d) ≤ unsigned_abs d = le_of_dvd (abs_positive d h) (IsGcd-gcd_of (unsigned_abs a) (unsigned_abs d)).1 in
    omega arith

pub common-one : (a : ℤ) → common a (pos 1) ≡ pos 1
common-one a = ap pos (gcd_of-one (unsigned_abs a))

factor_positive : (a k n : ℕ) → a * k ≡ n → 0 < n → 0 < a
factor_positive zero k n e h = absurd (omega arith)
factor_positive (suc a) k n e h = omega arith

-- the quotient of a positive number by what divides it
pub div_positive : (d : ℤ) (k : ℕ) → pos 0 <ℤ d → k ∣ unsigned_abs d → pos 0 <ℤ int_div d (pos k)
div_positive (negsuc n) k h q = absurd (omega (arith, ints))
div_positive (pos n) k h q = let f : 0 < n / k = factor_positive (n / k) k n (div-mul_cancel k q) (omega (arith, ints)) in omega (arith, ints)

pub dvd_quotient : (x g : ℕ) → g ∣ x → x / g ∣ x
dvd_quotient x g h = subst (λ n. x / g ∣ n) (div-mul_cancel g h) (dvd-mul_right (x / g) g)

-- a quotient is in range where the dividend is
pub quotient_within : (t : ℤ) (s : ℕ) → IsWithin t → IsWithin (int_div t (pos s))
quotient_within t s w = rw (abs-int_div t s) (omega (arith, div-le_self (unsigned_abs t) s))

pub within_along : (x y : ℤ) → x ≡ y → IsWithin y → IsWithin x
within_along x y e h = subst IsWithin (sym e) h

-- the numerator and the denominator of one fraction, divided by what they have in common
pub reduced_lowest : (a d n m : ℤ) → pos 0 <ℤ d → IsWithin a → IsWithin d → n ≡ int_div a (common a d) → m ≡ int_div d (common a d) → IsLowest n m
reduced_lowest a d n m h x y e f =
    let i = IsGcd-gcd_of (unsigned_abs a) (unsigned_abs d) in
    rw (e, f) (record {
      positive = div_positive d _ h i.1;
      num_within = quotient_within a _ x;
      den_within = quotient_within d _ y;
      lowest = simp abs-int_div (parts_coprime (unsigned_abs a) (unsigned_abs d) (abs_positive d h));
    })

pub reduced_value : (a d n m : ℤ) → n ≡ int_div a (common a d) → m ≡ int_div d (common a d) → n *ℤ d ≡ a *ℤ m
reduced_value a d n m e f =
    let g = common a d in
    let i = IsGcd-gcd_of (unsigned_abs a) (unsigned_abs d) in
    let x = var 0 in let y = var 1 in let z = var 2 in
    rw (e, f) (
    ap (λ k. int_div a g *ℤ k) (sym (int_div-mul d _ i.1))
    ∙ ring ℤ_ring (int_div a g ∷ int_div d g ∷ g ∷ []) (x ⊗ (y ⊗ z)) ((x ⊗ z) ⊗ y) refl
    ∙ ap (λ k. k *ℤ int_div d g) (int_div-mul a _ i.0))
