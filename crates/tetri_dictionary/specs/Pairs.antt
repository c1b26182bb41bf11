-- Dictionaries that keep one row for the two variables of a column.
use Rattle.std.specs.Prelude.{◌≡◌, ℕ, ◌+◌, ◌-◌, ◌<◌, ◌^◌, List, length, get_or, Option, Some, None, All}
use lib.IntN.{ℤ, pos}
use Rattle.tetri_dictionary.specs.declared.mixed.MixedRow.{MixedRow}
use Rattle.tetri_dictionary.specs.declared.mixed.MixedRow.TheVariants.{Whole, Fractions}
use Rattle.tetri_dictionary.specs.declared.origins.Origin.{Origin}
use Rattle.tetri_dictionary.specs.declared.origins.Origin.TheVariants.{Kept, Mirror, Column}
use Rattle.tetri_dictionary.specs.declared.pairs.Pairs.{Pairs}
use Rattle.tetri_dictionary.specs.Below.{below_of}
use Rattle.tetri_dictionary.specs.Holders.{AreHolders}
use Rattle.tetri_dictionary.specs.Mirrors.{rows_from, IsOrigin}
use Rattle.tetri_dictionary.specs.Mixed.{mixed_rows, AreWholeNumbers, AreMixedRows}
use Rattle.tetri_dictionary.specs.Tables.{Table}

-- a row of short whole numbers
abbrev pub IsWholeRow : ℕ → MixedRow → Type 0
IsWholeRow n (Whole den numbers) = AreWholeNumbers n den numbers.items
IsWholeRow n (Fractions numbers) = ⊥

-- of fractions there is none
abbrev pub denominator_of : MixedRow → ℤ
denominator_of (Whole den numbers) = den
denominator_of (Fractions numbers) = pos 1

abbrev pub origin_at : List Origin → ℕ → Origin
origin_at origins k = get_or origins k (Kept 0)

abbrev pub IsKept : ℕ → Origin → Type 0
IsKept r (Kept s) = s ≡ r
IsKept r (Mirror s w) = ⊥
IsKept r (Column p w) = ⊥

abbrev pub IsMirrorOf : ℕ → Origin → Type 0
IsMirrorOf r (Kept s) = ⊥
IsMirrorOf r (Mirror s w) = s ≡ r
IsMirrorOf r (Column p w) = ⊥

abbrev pub IsOfColumn : ℕ → Origin → Type 0
IsOfColumn p (Kept s) = ⊥
IsOfColumn p (Mirror s w) = ⊥
IsOfColumn p (Column q w) = q ≡ p

-- the one place whose origin is P
pub record IsOnlyPlace (P : Origin → Type 0) (origins : List Origin) (k : ℕ) : Type 0 where
  pub within : k < length origins
  pub holds : P (origin_at origins k)
  pub only : (q : ℕ) → q < length origins → P (origin_at origins q) → q ≡ k

-- the same, or none where no origin is P
abbrev pub IsPlaceOf : (Origin → Type 0) → List Origin → Option ℕ → Type 0
IsPlaceOf P origins None = (k : ℕ) → k < length origins → P (origin_at origins k) → ⊥
IsPlaceOf P origins (Some k) = IsOnlyPlace P origins k

abbrev pub table_of : Pairs → Table
table_of t = record { nonbasic = t.nonbasic.items; basic = t.basic.items; rows = rows_from (length t.nonbasic.items) (mixed_rows t.rows.items) t.origins.items }

-- where the rows of the places come from, of n nonbasic places, m kept rows and c basic places, whose objective is the last row, which has no mirror; for each kept row its place and that of its mirror, and for each nonbasic place that of the other variable of its column
pub record AreOrigins (n m c : ℕ) (origins : List Origin) (homes : List ℕ) (mirrors columns : List (Option ℕ)) : Type 0 where
  pub count : length origins ≡ c + 1
  pub within : All (IsOrigin n m) origins
  pub objective : origin_at origins c ≡ Kept (m - 1)
  pub homes_count : length homes ≡ m
  pub home : (r : ℕ) → r < m → IsOnlyPlace (IsKept r) origins (get_or homes r 0)
  pub mirrors_count : length mirrors ≡ m
  pub mirror : (r : ℕ) → r < m → IsPlaceOf (IsMirrorOf r) origins (get_or mirrors r None)
  pub alone : get_or mirrors (m - 1) None ≡ None
  pub columns_count : length columns ≡ n
  pub column : (p : ℕ) → p < n → IsPlaceOf (IsOfColumn p) origins (get_or columns p None)

-- rows that are kept, and where all rows come from
pub record IsPaired (t : Pairs) : Type 0 where
  pub origins : AreOrigins (length t.nonbasic.items) (length t.rows.items) (length t.basic.items) t.origins.items t.homes.items t.mirrors.items t.columns.items
  pub some : 0 < length t.rows.items
  pub rows : AreMixedRows (length t.nonbasic.items) t.rows.items
  pub row_below : t.row_below.items ≡ below_of (mixed_rows t.rows.items)
  pub holders : AreHolders (length t.nonbasic.items) t.holders.items (mixed_rows t.rows.items)
  pub below_count : length t.below.items ≡ length t.origins.items
  pub few_rows : length t.origins.items < 2 ^ 32
  pub few_kept : length t.rows.items < 2 ^ 32
  pub few_columns : length t.nonbasic.items < 2 ^ 31

-- where the rows that are kept are of short whole numbers, each place's sign is known as well
pub record IsPairs (t : Pairs) : Type 0 where
  pub paired : IsPaired t
  pub whole : All (IsWholeRow (length t.nonbasic.items)) t.rows.items
  pub below : t.below.items ≡ below_of (table_of t).rows
