-- What the code reads of a fraction.
use Rattle.std.proofs.Common.{◌≡◌, sym, ap, ◌∙◌}
use Rattle.std.proofs.lemmas.Int.{to_z-of_z, fits_signed_from_abs}
use lib.IntN.{ℤ, pos}
use mir.Val.{to_z, of_z}
use mir.Syntax.{w128}
use Rattle.tetri_algebra.specs.Rational.{ℚ}
use Rattle.tetri_algebra.specs.RationalRing.{zero_ℚ, num-whole_ℚ, den-whole_ℚ}
use Rattle.tetri_num.specs.declared.fractions.Frac.{Frac}
use Rattle.tetri_num.specs.Frac.{value}
use Rattle.tetri_algebra.specs.Range.{IsWithin}
use Rattle.tetri_num.proofs.FractionLaws.{num-value, value_is, zero_den}

pub number_read : (z : ℤ) → IsWithin z → to_z w128 (of_z w128 z) ≡ z
number_read z h = to_z-of_z w128 z (fits_signed_from_abs w128 z h)

pub num_read : (x : Frac) → to_z w128 (of_z w128 x.num) ≡ (value x).num
num_read x = number_read x.num x.lowest.num_within ∙ sym (num-value x)

-- the bits of a numerator are 0 where the value is 0
pub zero_from_bits : (x : Frac) → of_z w128 x.num ≡ 0 → value x ≡ zero_ℚ
zero_from_bits x e =
    let n : x.num ≡ pos 0 = sym (number_read x.num x.lowest.num_within) ∙ ap (to_z w128) e in
    value_is x zero_ℚ (n ∙ sym (num-whole_ℚ (pos 0))) (zero_den x.num x.den n x.lowest ∙ ap pos (sym (den-whole_ℚ (pos 0))))

pub bits_of_zero : (x : Frac) → value x ≡ zero_ℚ → of_z w128 x.num ≡ 0
bits_of_zero x e = ap (of_z w128) (sym (num-value x) ∙ ap (λ (p : ℚ). p.num) e ∙ num-whole_ℚ (pos 0))
