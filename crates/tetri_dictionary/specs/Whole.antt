-- Dictionaries whose rows are whole numbers over one denominator, where these are short.
use Rattle.std.specs.Prelude.{◌≡◌, ◌+◌, ◌^◌, ◌<◌, length}
use Rattle.tetri_dictionary.specs.declared.whole.Whole.{Whole}
use Rattle.tetri_dictionary.specs.Below.{below_of}
use Rattle.tetri_dictionary.specs.Holders.{AreHolders}
use Rattle.tetri_dictionary.specs.Mixed.{mixed_rows, AreMixedRows}
use Rattle.tetri_dictionary.specs.Tables.{Table}

abbrev pub table_of : Whole → Table
table_of t = record { nonbasic = t.nonbasic.items; basic = t.basic.items; rows = mixed_rows t.rows.items }

-- a row for each basic place and the objective, each of a constant and a coefficient for each nonbasic place
pub record IsWhole (t : Whole) : Type 0 where
  pub rows : length t.rows.items ≡ length t.basic.items + 1
  pub wide : AreMixedRows (length t.nonbasic.items) t.rows.items
  pub below : t.below.items ≡ below_of (mixed_rows t.rows.items)
  pub holders : AreHolders (length t.nonbasic.items) t.holders.items (mixed_rows t.rows.items)
  pub few_rows : length t.rows.items < 2 ^ 32
  pub few_columns : length t.nonbasic.items < 2 ^ 31
