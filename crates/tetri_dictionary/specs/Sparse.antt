-- Rows by their entries: the places whose coefficient is told, ascending. A place without an entry has 0.
use Rattle.std.specs.Prelude.{◌≡◌, ℕ, ◌+◌, ◌<◌, ◌^◌, List, [], ◌∷◌, length, get_or, map, cond, ◌==◌, All}
use Prim.Native.Nat.{zero, suc}
use Rattle.tetri_algebra.specs.Rational.{ℚ}
use Rattle.tetri_algebra.specs.RationalRing.{zero_ℚ}
use Rattle.tetri_num.specs.Frac.{value}
use Rattle.tetri_dictionary.specs.declared.lines.Entry.{Entry}
use Rattle.tetri_dictionary.specs.declared.lines.Line.{Line}
use Rattle.tetri_dictionary.specs.declared.sparse.Sparse.{Sparse}
use Rattle.tetri_dictionary.specs.Tables.{Table}

-- the place that the entry at a place of the list tells
abbrev pub place_at : List Entry → ℕ → ℕ
place_at es k = get_or (map (λ (e : Entry). e.place) es) k 0

-- the number that the entry at a place of the list tells
abbrev pub number_at : List Entry → ℕ → ℚ
number_at es k = get_or (map (λ (e : Entry). value e.number) es) k zero_ℚ

-- the coefficient of a place
abbrev pub number_of : List Entry → ℕ → ℚ
number_of [] j = zero_ℚ
number_of (e ∷ es) j = cond (e.place == j) (value e.number) (number_of es j)

-- the coefficients of n places from place k on
abbrev pub numbers_from : ℕ → ℕ → List Entry → List ℚ
numbers_from k zero es = []
numbers_from k (suc n) es = number_of es k ∷ numbers_from (k + 1) n es

-- the whole row, of a constant and n coefficients
abbrev pub line_of : ℕ → Line → List ℚ
line_of n l = value l.constant ∷ numbers_from 0 n l.entries.items

abbrev pub lines_of : ℕ → List Line → List (List ℚ)
lines_of n ls = map (line_of n) ls

abbrev pub AreAscending : List Entry → Type 0
AreAscending es = (k m : ℕ) → k < m → m < length es → place_at es k < place_at es m

-- entries that ascend by place, of n places
pub record AreEntries (n : ℕ) (es : List Entry) : Type 0 where
  pub ascending : AreAscending es
  pub within : (k : ℕ) → k < length es → place_at es k < n

abbrev pub AreLines : ℕ → List Line → Type 0
AreLines n ls = All (λ l. AreEntries n l.entries.items) ls

abbrev pub table_of : Sparse → Table
table_of s = record { nonbasic = s.nonbasic.items; basic = s.basic.items; rows = lines_of (length s.nonbasic.items) s.lines.items }

-- a row for each basic place and the objective, whose entries are of the nonbasic places
pub record IsSparse (s : Sparse) : Type 0 where
  pub rows : length s.lines.items ≡ length s.basic.items + 1
  pub lines : AreLines (length s.nonbasic.items) s.lines.items
  pub few_rows : length s.lines.items < 2 ^ 32
  pub few_columns : length s.nonbasic.items < 2 ^ 31
