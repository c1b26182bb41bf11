-- What the code of the divisors returns, as a greatest common divisor and a least common multiple.
use Rattle.std.proofs.Common.{◌≡◌, ℕ, ◌≤◌, max, sym, ap, ◌∙◌, subst, arith, Option, Some, None, ◌⊎◌, ⊎_elim}
use Prim.Native.Nat.{zero, suc}
use Rattle.std.proofs.Math.Nat.{le_of_dvd}
use Rattle.std.specs.Prelude.{unsigned_abs, ◌<ℤ◌, IfSome}
use Rattle.std.specs.Int.{IsGcd}
use lib.IntN.{ℤ, pos}
use Rattle.tetri_algebra.specs.Gcd.{gcd_of, lcm_of, IsLcm}
use Rattle.tetri_algebra.specs.Coprime.{IsGcd-gcd_of, IsLcm-lcm_of, gcd_of_comm, gcd_of-zero, gcd_of-one}
use Rattle.tetri_algebra.specs.Integers.{abs_positive}
use Rattle.tetri_num.specs.Forms.{common}

-- the greatest common divisor is no greater than the greater number
pub gcd_of-le : (a b : ℕ) → gcd_of a b ≤ max a b
gcd_of-le zero b = let e : gcd_of 0 b ≡ b = gcd_of_comm 0 b ∙ gcd_of-zero b in omega arith
gcd_of-le (suc a) b = let l : gcd_of (suc a) b ≤ suc a = le_of_dvd (omega arith) (IsGcd-gcd_of (suc a) b).0 in omega arith

pub gcd_of_bound : (a b g : ℕ) → g ≡ gcd_of a b → g ≤ max a b
gcd_of_bound a b g e = rw e (gcd_of-le a b)

-- a number has only 1 in common with 1
pub one_is_common : (a b : ℤ) → (a ≡ pos 1) ⊎ (b ≡ pos 1) → pos 1 ≡ common a b
one_is_common a b h = ⊎_elim
    (λ e. sym (ap (λ z. common z b) e ∙ ap pos (gcd_of_comm 1 (unsigned_abs b) ∙ gcd_of-one (unsigned_abs b))))
    (λ e. sym (ap (λ z. common a z) e ∙ ap pos (gcd_of-one (unsigned_abs a)))) h

pub IsGcd-common : (a b r : ℤ) → r ≡ common a b → IsGcd (unsigned_abs a) (unsigned_abs b) (unsigned_abs r)
IsGcd-common a b r e = subst (λ z. IsGcd (unsigned_abs a) (unsigned_abs b) (unsigned_abs z)) (sym e) (IsGcd-gcd_of (unsigned_abs a) (unsigned_abs b))

pub IsLcm-some : (a b : ℤ) (o : Option ℤ) → pos 0 <ℤ a → pos 0 <ℤ b → IfSome o (λ m. m ≡ pos (lcm_of (unsigned_abs a) (unsigned_abs b))) → IfSome o (λ m. IsLcm (unsigned_abs a) (unsigned_abs b) (unsigned_abs m))
IsLcm-some a b None h k e = tt
IsLcm-some a b (Some m) h k e = subst (λ z. IsLcm (unsigned_abs a) (unsigned_abs b) (unsigned_abs z)) (sym e) (IsLcm-lcm_of (unsigned_abs a) (unsigned_abs b) (abs_positive a h) (abs_positive b k))
