-- Fractions as values: when two are one, and that each is representable.
use Rattle.std.proofs.Common.{◌≡◌, sym, ap, ◌∙◌}
use mathlib.Core.HLevel.{Σ_prop_path}
use Rattle.std.proofs.Math.Nat.{ℕ_set}
use Rattle.std.proofs.Math.Bridge.{le_prop}
use lib.Dec.{T_prop}
use lib.IntN.{ℤ, pos}
use Rattle.tetri_algebra.specs.Rational.{ℚ}
use Rattle.tetri_num.specs.declared.fractions.Frac.{Frac}
use Rattle.tetri_algebra.specs.Range.{IsWithin}
use Rattle.tetri_num.specs.Lowest.{IsLowest}
use Rattle.tetri_num.specs.Frac.{value}
use Rattle.tetri_num.specs.Checked.{IsRepresentable}
use Rattle.tetri_num.proofs.Common.{within_along}
use Rattle.tetri_num.proofs.Values.{num-value, den-value}

record Parts : Type 0 where
  num : ℤ
  den : ℤ

abbrev parts_of : ℤ → ℤ → Parts
parts_of n d = record { num = n; den = d }

abbrev AreLowest : Parts → Type 0
AreLowest p = IsLowest p.num p.den

within_prop : (z : ℤ) → IsProp (IsWithin z)
within_prop z = le_prop

lowest_prop : (p : Parts) → IsProp (AreLowest p)
lowest_prop p = hlevel (T_prop, within_prop, ℕ_set)

abbrev whole_of : Frac → (p : Parts) × AreLowest p
whole_of x = (parts_of x.num x.den, x.lowest)

abbrev from_whole : (p : Parts) × AreLowest p → Frac
from_whole p = record { num = p.0.num; den = p.0.den; lowest = p.1 }

-- one numerator and one denominator are one fraction
pub same_frac : (x y : Frac) → x.num ≡ y.num → x.den ≡ y.den → x ≡ y
same_frac x y e f =
    let p : parts_of x.num x.den ≡ parts_of y.num y.den = ap (λ n. parts_of n x.den) e ∙ ap (λ d. parts_of y.num d) f in
    let s : whole_of x ≡ whole_of y = Σ_prop_path lowest_prop p in
    ap from_whole s

pub same_value : (x y : Frac) → value x ≡ value y → x ≡ y
same_value x y e =
    same_frac x y (sym (num-value x) ∙ ap (λ (p : ℚ). p.num) e ∙ num-value y) (sym (den-value x) ∙ ap (λ (p : ℚ). pos p.den) e ∙ den-value y)

pub value_representable : (x : Frac) → IsRepresentable (value x)
value_representable x = record { num = within_along _ _ (num-value x) x.lowest.num_within; den = within_along _ _ (den-value x) x.lowest.den_within }
