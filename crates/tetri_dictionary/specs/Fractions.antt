-- Lists of fractions as rational numbers.
use Rattle.std.specs.Prelude.{◌≡◌, ℕ, ◌+◌, List, map, length, All, Vec}
use Rattle.std.specs.Global.{Global}
use Rattle.tetri_algebra.specs.Rational.{ℚ}
use Rattle.tetri_num.specs.declared.fractions.Frac.{Frac}
use Rattle.tetri_num.specs.Frac.{value}

abbrev pub values : List Frac → List ℚ
values xs = map value xs

-- the rows of a table
abbrev pub rows_of : List (Vec Frac Global) → List (List ℚ)
rows_of rows = map (λ row. values row.items) rows

-- each row has a constant and n coefficients
abbrev pub AreWide : ℕ → List (Vec Frac Global) → Type 0
AreWide n rows = All (λ row. length row.items ≡ n + 1) rows
