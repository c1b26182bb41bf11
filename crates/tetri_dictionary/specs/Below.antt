-- Which rows have a constant below 0.
use Rattle.std.specs.Prelude.{List, Bool, map}
use Rattle.tetri_algebra.specs.Rational.{ℚ}
use Rattle.tetri_dictionary.specs.Tables.{constant_of, is_negative}

abbrev pub below_of : List (List ℚ) → List Bool
below_of rows = map (λ row. is_negative (constant_of row)) rows
