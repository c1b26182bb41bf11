-- Lines of free MPS, of given names and numbers.
use Rattle.std.specs.Prelude.{ℕ, List, ◌++◌, codes, decimal}
use Rattle.std.specs.Fmt.{signed_decimal}
use lib.IntN.{ℤ}

-- the name of a row that is at most its right side
unfoldable pub limit_line : List ℕ → List ℕ
limit_line name = codes " L " ++ name ++ codes "\n"

-- what a column costs: so much, and so much below 0
unfoldable pub loss_line : List ℕ → ℕ → List ℕ
loss_line name by = codes " " ++ name ++ codes " value " ++ decimal by ++ codes "\n"

unfoldable pub gain_line : List ℕ → ℕ → List ℕ
gain_line name by = codes " " ++ name ++ codes " value -" ++ decimal by ++ codes "\n"

-- how many times a column stands in a row
unfoldable pub entry_line : List ℕ → List ℕ → ℤ → List ℕ
entry_line name row by = codes " " ++ name ++ codes " " ++ row ++ codes " " ++ signed_decimal by ++ codes "\n"

-- the right side of a row
unfoldable pub right_line : List ℕ → ℤ → List ℕ
right_line row right = codes " RIGHT " ++ row ++ codes " " ++ signed_decimal right ++ codes "\n"

-- from where to where a column goes
unfoldable pub lower_line : List ℕ → ℤ → List ℕ
lower_line name lower = codes " LO BOUND " ++ name ++ codes " " ++ signed_decimal lower ++ codes "\n"

unfoldable pub upper_line : List ℕ → ℤ → List ℕ
upper_line name upper = codes " UP BOUND " ++ name ++ codes " " ++ signed_decimal upper ++ codes "\n"
