-- The pivot: a basic variable and a nonbasic one are exchanged between their places.
use Rattle.std.specs.Prelude.{ℕ, List, [], length, get_or, set, cond, ◌==◌, Result, Ok}
use Prim.Native.Nat.{zero, suc}
use lib.IntN.{negsuc}
use Rattle.tetri_algebra.specs.Rational.{ℚ, whole_ℚ}
use Rattle.tetri_algebra.specs.RationalRing.{zero_ℚ, neg_ℚ}
use Rattle.tetri_num.specs.Checked.{checked_sum, checked_product, checked_quotient}
use Rattle.tetri_num.specs.declared.places.Kind.TheVariants as Kind
use Rattle.tetri_num.specs.declared.places.Place.{Place}
use Rattle.tetri_dictionary.specs.Tables.{Table}
use Rattle.tetri_dictionary.specs.Steps.{or_place, each, each_pair}
use Rattle.tetri_base.specs.ResultSteps.{then_ok}

-- the column that a place names for a row's entry, with n nonbasic places: n for the constant, which stands first
abbrev pub column_of : ℕ → ℕ → ℕ
column_of n zero = n
column_of n (suc j) = j

-- -x / a
abbrev pub solved_entry : ℕ → ℕ → ℚ → ℕ → ℚ → Result ℚ Place
solved_entry n i a k x = or_place (checked_quotient (neg_ℚ x) a) Kind.Row i (column_of n k)

-- the leaving row i solved for the nonbasic variable at place j, with -1 for the leaving variable there
abbrev pub solved_row : ℕ → ℕ → ℕ → List ℚ → Result (List ℚ) Place
solved_row n i j row =
    each (solved_entry n i (get_or row (suc j) zero_ℚ)) 0 (set row (suc j) (whole_ℚ (negsuc 0)))

-- x + a * y
abbrev pub replaced_entry : ℕ → ℕ → ℚ → ℕ → ℚ → ℚ → Result ℚ Place
replaced_entry n i a k x y =
    then_ok (or_place (checked_product a y) Kind.Entry i (column_of n k)) (λ z. or_place (checked_sum x z) Kind.Entry i (column_of n k))

-- row i with the solved row put in for its variable at place j
abbrev pub replaced_row : ℕ → ℕ → ℕ → List ℚ → List ℚ → Result (List ℚ) Place
replaced_row n i j solved row =
    each_pair (replaced_entry n i (get_or row (suc j) zero_ℚ)) 0 (set row (suc j) zero_ℚ) solved

-- row k of the next table, where row i leaves
abbrev pub next_row : ℕ → ℕ → ℕ → List ℚ → ℕ → List ℚ → Result (List ℚ) Place
next_row n i j solved k row = cond (k == i) (Ok solved) (replaced_row n k j solved row)

-- the rows after the exchange of the basic place i and the nonbasic place j, of n
unfoldable pub pivoted_rows : ℕ → ℕ → ℕ → List (List ℚ) → Result (List (List ℚ)) Place
pivoted_rows n i j rows = then_ok (solved_row n i j (get_or rows i [])) (λ solved. each (next_row n i j solved) 0 rows)

-- the table after the exchange of the basic place i and the nonbasic place j
unfoldable pub pivoted : Table → ℕ → ℕ → Result Table Place
pivoted t i j =
    then_ok (pivoted_rows (length t.nonbasic) i j t.rows) (λ rows.
    Ok (record { nonbasic = set t.nonbasic j (get_or t.basic i 0); basic = set t.basic i (get_or t.nonbasic j 0); rows = rows }))
