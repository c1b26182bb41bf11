-- Products of numbers of 64 bits.
use Rattle.std.proofs.Common.{◌≡◌, ℕ, ◌*◌, ◌^◌, ◌<◌, ◌≤◌, sym, ap, ◌∙◌, subst, arith, Some}
use Rattle.std.specs.Prelude.{unsigned_abs, FitsSigned}
use Rattle.std.proofs.Math.Nat.{mul-le-mul_left}
use Rattle.std.proofs.lemmas.Int.{unsigned_abs-mul, fits_signed_from_abs, to_z-of_z}
use lib.IntN.{ℤ, ◌*ℤ◌}
use mir.Val.{to_z, of_z}
use mir.Syntax.{w128}
use Rattle.tetri_ip.specs.Forming.{within}
use Rattle.tetri_algebra.specs.Range.{IsWithin}
use Rattle.tetri_ip.proofs.Steps.{within_itself}

natural_product : (m n : ℕ) → m ≤ 2 ^ 63 → n ≤ 2 ^ 63 → m * n < 2 ^ 127
natural_product m n h k = let p = mul-le-mul_left m k in omega (arith, p)

product_within : (a b : ℤ) → unsigned_abs a ≤ 2 ^ 63 → unsigned_abs b ≤ 2 ^ 63 → IsWithin (a *ℤ b)
product_within a b h k = subst (λ n. n < 2 ^ 127) (sym (unsigned_abs-mul a b)) (natural_product (unsigned_abs a) (unsigned_abs b) h k)

-- the same of the numbers as the code passes them
pub word_product_fits : (a b a' b' : ℤ) → a' ≡ a → b' ≡ b → unsigned_abs a ≤ 2 ^ 63 → unsigned_abs b ≤ 2 ^ 63 → FitsSigned w128 (a' *ℤ b')
word_product_fits a b a' b' e f h k = fits_signed_from_abs w128 (a' *ℤ b') (rw (e, f) (product_within a b h k))

pub word_product_is : (a b a' b' : ℤ) → a' ≡ a → b' ≡ b → unsigned_abs a ≤ 2 ^ 63 → unsigned_abs b ≤ 2 ^ 63 → Some (to_z w128 (of_z w128 (a' *ℤ b'))) ≡ within (a *ℤ b)
word_product_is a b a' b' e f h k =
    ap Some (to_z-of_z w128 (a' *ℤ b') (word_product_fits a b a' b' e f h k) ∙ ap (λ x. x *ℤ b') e ∙ ap (λ y. a *ℤ y) f)
    ∙ sym (within_itself (a *ℤ b) (product_within a b h k))
