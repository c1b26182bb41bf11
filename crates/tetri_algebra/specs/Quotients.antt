-- Quotients of whole numbers: exact ones, and those whose remainder is not negative.
use Rattle.std.proofs.Common.{◌≡◌, ℕ, ◌*◌, ◌/◌, ◌<◌, refl, ap, arith, [], ◌∷◌}
use Prim.Native.Nat.{suc, ◌∣◌}
use Rattle.std.specs.Prelude.{unsigned_abs, int_div, ◌<ℤ◌, ◌≤ℤ◌}
use Rattle.std.specs.Int.{int_div_euclid, int_rem_euclid}
use Rattle.std.proofs.Math.Nat.{div-add-mod, mod-lt, div-mul_cancel}
use Rattle.std.proofs.lemmas.Int.{ints}
use Rattle.tetri_algebra.specs.RingSolver.{var, num, ring, ◌⊕◌, ◌⊗◌}
use Rattle.tetri_algebra.specs.IntegerRing.{ℤ_ring}
use lib.IntN.{ℤ, pos, negsuc, ◌+ℤ◌, ◌*ℤ◌, neg_ℤ}
use borrow.Author.Differences.{same_in, product_is, neg_is, abs_is}

-- ---- an exact quotient
pub abs-int_div : (a : ℤ) (k : ℕ) → unsigned_abs (int_div a (pos k)) ≡ unsigned_abs a / k
abs-int_div (pos n) k = refl
abs-int_div (negsuc n) k = let m = neg_is (pos (suc n / k)) in omega (arith, abs_is (neg_ℤ (pos (suc n / k))), m)

pub int_div-mul : (a : ℤ) (k : ℕ) → k ∣ unsigned_abs a → int_div a (pos k) *ℤ pos k ≡ a
int_div-mul (pos n) k h = ap pos (div-mul_cancel k h)
int_div-mul (negsuc n) k h =
    let e = div-mul_cancel k h in
    let m = neg_is (pos (suc n / k)) in
    let p = product_is (neg_ℤ (pos (suc n / k))) (pos k) in
    same_in _ _ (omega (arith, p, ap (λ j. j * k) m.0, ap (λ j. j * k) m.1, e))

-- ---- the quotient whose remainder is not negative
pub euclid : (a b : ℤ) → pos 0 <ℤ b → a ≡ int_div_euclid a b *ℤ b +ℤ int_rem_euclid a b
euclid a (negsuc b) h = absurd (omega (arith, ints))
euclid (pos a) (pos b) h = let p = div-add-mod a b in omega (arith, ints, p)
euclid (negsuc a) (pos b) h = let p = div-add-mod a b in let l : 0 < b = omega (arith, ints) in let m = mod-lt a l in omega (arith, ints, p, m)

pub rem_range : (a b : ℤ) → pos 0 <ℤ b → (pos 0 ≤ℤ int_rem_euclid a b) × (int_rem_euclid a b <ℤ b)
rem_range a (negsuc b) h = absurd (omega (arith, ints))
rem_range (pos a) (pos b) h = let l : 0 < b = omega (arith, ints) in let m = mod-lt a l in (omega (arith, ints), omega (arith, ints))
rem_range (negsuc a) (pos b) h = let l : 0 < b = omega (arith, ints) in let m = mod-lt a l in (omega (arith, ints), omega (arith, ints))

-- it is the greatest whole number whose product with the divisor is not above
pub div_below : (a d : ℤ) → pos 0 <ℤ d → (int_div_euclid a d *ℤ d) ≤ℤ a
div_below a d h = let e = euclid a d h in let r = rem_range a d h in omega (arith, ints)

pub div_above : (a d : ℤ) → pos 0 <ℤ d → a <ℤ ((int_div_euclid a d +ℤ pos 1) *ℤ d)
div_above a d h =
    let e = euclid a d h in
    let r = rem_range a d h in
    let l : a <ℤ (int_div_euclid a d *ℤ d +ℤ d) = omega (arith, ints) in
    rw (ring ℤ_ring (int_div_euclid a d ∷ d ∷ []) ((var 0 ⊕ num (pos 1)) ⊗ var 1) (var 0 ⊗ var 1 ⊕ var 1) refl) l
