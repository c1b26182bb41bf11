-- Laws of the whole numbers: products, and products against the order.
use Rattle.std.proofs.Common.{◌≡◌, ℕ, ◌+◌, ◌*◌, ◌<◌, ◌≤◌, ap, arith}
use Rattle.std.specs.Prelude.{◌<ℤ◌, ◌≤ℤ◌, unsigned_abs}
use Prim.Native.Nat.{zero, suc}
use Rattle.std.proofs.Math.Nat.{mul-le-mul_left}
use Rattle.std.proofs.lemmas.Int.{ints, by_lt_z}
use lib.IntN.{ℤ, pos, negsuc, ◌+ℤ◌, ◌*ℤ◌, neg_ℤ}
use Rattle.tetri_algebra.specs.Coprime.{mul_cancel_left}
use borrow.Author.Differences.{up, down, same_out, same_in, sum_is_lem, product_is}

pub *ℤ-distrib_right : (a b c : ℤ) → (a +ℤ b) *ℤ c ≡ a *ℤ c +ℤ b *ℤ c
*ℤ-distrib_right a b c =
    let e = sum_is_lem a b in
    omega (arith, ints, ap (λ (n : ℕ). n * up c) e, ap (λ (n : ℕ). n * down c) e)

pub *ℤ-distrib_left : (a b c : ℤ) → a *ℤ (b +ℤ c) ≡ a *ℤ b +ℤ a *ℤ c
*ℤ-distrib_left a b c =
    let e = sum_is_lem b c in
    omega (arith, ints, ap (λ (n : ℕ). up a * n) e, ap (λ (n : ℕ). down a * n) e)

pub *ℤ_assoc : (a b c : ℤ) → (a *ℤ b) *ℤ c ≡ a *ℤ (b *ℤ c)
*ℤ_assoc a b c =
    let p = product_is a b in
    let q = product_is b c in
    omega (
      arith,
      ints,
      ap (λ (n : ℕ). n * up c) p.0,
      ap (λ (n : ℕ). n * down c) p.0,
      ap (λ (n : ℕ). n * up c) p.1,
      ap (λ (n : ℕ). n * down c) p.1,
      ap (λ (n : ℕ). up a * n) q.0,
      ap (λ (n : ℕ). down a * n) q.0,
      ap (λ (n : ℕ). up a * n) q.1,
      ap (λ (n : ℕ). down a * n) q.1,
    )

pub one-*ℤ : (a : ℤ) → pos 1 *ℤ a ≡ a
one-*ℤ a = omega (arith, ints)

pub *ℤ-one : (a : ℤ) → a *ℤ pos 1 ≡ a
*ℤ-one a = omega (arith, ints)

-- a factor above 0 cancels
pub *ℤ_cancel_right : (a b : ℤ) (d : ℕ) → 0 < d → a *ℤ pos d ≡ b *ℤ pos d → a ≡ b
*ℤ_cancel_right a b d h e =
    let p = product_is a (pos d) in
    let q = product_is b (pos d) in
    let s = same_out (a *ℤ pos d) (b *ℤ pos d) e in
    let u : d * up a ≡ d * up b = omega (arith, p.0, q.0, s.0) in
    let v : d * down a ≡ d * down b = omega (arith, p.1, q.1, s.1) in
    same_in a b (omega (arith, mul_cancel_left d (up a) (up b) h u, mul_cancel_left d (down a) (down b) h v))

-- ---- the size of a number
pub abs-neg_ℤ : (a : ℤ) → unsigned_abs (neg_ℤ a) ≡ unsigned_abs a
abs-neg_ℤ a = omega (arith, ints)

pub abs_of_positive : (d : ℤ) → pos 0 <ℤ d → pos (unsigned_abs d) ≡ d
abs_of_positive d h = omega (arith, ints)

pub abs_positive : (d : ℤ) → pos 0 <ℤ d → 0 < unsigned_abs d
abs_positive d h = omega (arith, ints)

-- ---- products and the order, by the sign of the common factor
pub mul_positive : (a b : ℤ) → pos 0 <ℤ a → pos 0 <ℤ b → pos 0 <ℤ (a *ℤ b)
mul_positive (negsuc n) b h k = absurd (omega (arith, ints))
mul_positive (pos n) (negsuc m) h k = absurd (omega (arith, ints))
mul_positive (pos zero) (pos m) h k = absurd (omega (arith, ints))
mul_positive (pos (suc n)) (pos m) h k = omega (arith, ints)

pub mul_not_negative : (a b : ℤ) → pos 0 ≤ℤ a → pos 0 ≤ℤ b → pos 0 ≤ℤ (a *ℤ b)
mul_not_negative (negsuc n) b h k = absurd (omega (arith, ints))
mul_not_negative (pos n) (negsuc m) h k = absurd (omega (arith, ints))
mul_not_negative (pos n) (pos m) h k = omega (arith, ints)

pub mul_le_of_nonnegative : (d x u : ℤ) → pos 0 ≤ℤ d → x ≤ℤ u → (d *ℤ x) ≤ℤ (d *ℤ u)
mul_le_of_nonnegative (negsuc n) x u h k = absurd (omega (arith, ints))
mul_le_of_nonnegative (pos n) x u h k =
    let e : up x + down u ≤ up u + down x = omega (arith, ints) in
    omega (arith, ints, mul-le-mul_left n e)

pub mul_le_of_nonpositive : (d x l : ℤ) → d ≤ℤ pos 0 → l ≤ℤ x → (d *ℤ x) ≤ℤ (d *ℤ l)
mul_le_of_nonpositive (pos (suc n)) x l h k = absurd (omega (arith, ints))
mul_le_of_nonpositive (pos zero) x l h k = omega (arith, ints)
mul_le_of_nonpositive (negsuc n) x l h k =
    let e : up l + down x ≤ up x + down l = omega (arith, ints) in
    omega (arith, ints, mul-le-mul_left (suc n) e)

pub mul_le_right : (d x u : ℤ) → pos 0 ≤ℤ d → x ≤ℤ u → (x *ℤ d) ≤ℤ (u *ℤ d)
mul_le_right d x u h k = let e = mul_le_of_nonnegative d x u h k in omega (arith, ints)

pub mul_lt_right : (d x u : ℤ) → pos 0 <ℤ d → x <ℤ u → (x *ℤ d) <ℤ (u *ℤ d)
mul_lt_right (negsuc n) x u h k = absurd (omega (arith, ints))
mul_lt_right (pos n) x u h k =
    let e : up x + down u + 1 ≤ up u + down x = omega (arith, ints) in
    let l : 0 < n = omega (arith, ints) in
    omega (arith, ints, mul-le-mul_left n e)

-- the order of two products with one factor above 0 is the order of the others
pub mul_le_cancel : (d x u : ℤ) → pos 0 <ℤ d → (x *ℤ d) ≤ℤ (u *ℤ d) → x ≤ℤ u
mul_le_cancel d x u h k = by_lt_z u x (λ l. let e = mul_lt_right d u x h l in absurd (omega (arith, ints))) (λ l. l)

pub mul_lt_cancel : (d x u : ℤ) → pos 0 <ℤ d → (x *ℤ d) <ℤ (u *ℤ d) → x <ℤ u
mul_lt_cancel d x u h k =
    by_lt_z x u (λ l. l) (λ l. let n : pos 0 ≤ℤ d = omega (arith, ints) in let e = mul_le_right d u x n l in absurd (omega (arith, ints)))
