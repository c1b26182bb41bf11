-- The code's tables.
use Rattle.std.specs.Prelude.{◌≡◌, ◌+◌, ◌^◌, ◌<◌, length}
use Rattle.tetri_dictionary.specs.declared.full.Full.{Full}
use Rattle.tetri_dictionary.specs.Tables.{Table}
use Rattle.tetri_dictionary.specs.Fractions.{rows_of, AreWide}

abbrev pub table_of : Full → Table
table_of t = record { nonbasic = t.nonbasic.items; basic = t.basic.items; rows = rows_of t.rows.items }

-- a row for each basic place and the objective, each of a constant and a coefficient for each nonbasic place
pub record IsShaped (t : Full) : Type 0 where
  pub rows : length t.rows.items ≡ length t.basic.items + 1
  pub wide : AreWide (length t.nonbasic.items) t.rows.items
  pub few_rows : length t.rows.items < 2 ^ 32
  pub few_columns : length t.nonbasic.items < 2 ^ 31
