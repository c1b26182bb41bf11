-- A fraction as a rational number, and the results of its operations by numerators and denominators.
use Rattle.std.specs.Prelude.{◌≡◌, unsigned_abs, ◌*ℤ◌, ◌+ℤ◌, ◌-ℤ◌}
use Rattle.tetri_algebra.specs.Integers.{abs_positive}
use Rattle.tetri_algebra.specs.Rational.{ℚ}
use Rattle.tetri_num.specs.declared.fractions.Frac.{Frac}

-- the rational number
unfoldable pub value : Frac → ℚ
value x = record { num = x.num; den = unsigned_abs x.den; positive = abs_positive x.den x.lowest.positive; lowest = x.lowest.lowest }

-- r = x + y
abbrev pub IsSum : Frac → Frac → Frac → Type 0
IsSum r x y = r.num *ℤ (x.den *ℤ y.den) ≡ (x.num *ℤ y.den +ℤ y.num *ℤ x.den) *ℤ r.den

-- r = x - y
abbrev pub IsDifference : Frac → Frac → Frac → Type 0
IsDifference r x y = r.num *ℤ (x.den *ℤ y.den) ≡ (x.num *ℤ y.den -ℤ y.num *ℤ x.den) *ℤ r.den

-- r = x * y
abbrev pub IsProduct : Frac → Frac → Frac → Type 0
IsProduct r x y = r.num *ℤ (x.den *ℤ y.den) ≡ (x.num *ℤ y.num) *ℤ r.den

-- r = x / y
abbrev pub IsQuotient : Frac → Frac → Frac → Type 0
IsQuotient r x y = r.num *ℤ (x.den *ℤ y.num) ≡ (x.num *ℤ y.den) *ℤ r.den
