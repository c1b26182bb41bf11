-- Texts of given names and numbers.
use Rattle.std.specs.Prelude.{ℕ, List, ◌++◌, codes, decimal}
use Rattle.std.specs.Fmt.{signed_decimal}
use lib.IntN.{ℤ}

unfoldable pub added_text : ℕ → List ℕ → List ℕ
added_text by name = codes " + " ++ decimal by ++ codes " " ++ name ++ codes "\n"

unfoldable pub taken_text : ℕ → List ℕ → List ℕ
taken_text by name = codes " - " ++ decimal by ++ codes " " ++ name ++ codes "\n"

-- a row's name before its terms, and before none
unfoldable pub row_name_text : List ℕ → List ℕ
row_name_text name = codes " " ++ name ++ codes ":\n"

unfoldable pub empty_row_text : List ℕ → List ℕ
empty_row_text name = codes " " ++ name ++ codes ": 0 nothing\n"

unfoldable pub right_text : ℤ → List ℕ
right_text right = codes " <= " ++ signed_decimal right ++ codes "\n"

unfoldable pub box_text : ℤ → List ℕ → ℤ → List ℕ
box_text lower name upper =
    codes " " ++ signed_decimal lower ++ codes " <= " ++ name ++ codes " <= "
    ++ signed_decimal upper ++ codes "\n"

unfoldable pub name_text : List ℕ → List ℕ
name_text name = codes " " ++ name ++ codes "\n"
