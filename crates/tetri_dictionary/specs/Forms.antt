-- Dictionaries in one of two forms: with one row for the two variables of a column, or with all rows.
use Rattle.std.specs.Prelude.{◌≡◌, Option, None, Some, Result, Ok}
use Rattle.tetri_num.specs.declared.places.Place.{Place}
use Rattle.tetri_dictionary.specs.declared.mirrored.Form.{Form}
use Rattle.tetri_dictionary.specs.declared.pairs.Pairs.{Pairs}
use Rattle.tetri_dictionary.specs.declared.whole.Whole.{Whole}
use Rattle.tetri_dictionary.specs.Pairs.{table_of as pairs_table, IsPairs}
use Rattle.tetri_dictionary.specs.Tables.{Table}
use Rattle.tetri_dictionary.specs.Whole.{table_of as whole_table, IsWhole}

abbrev pub form_table : Form → Table
form_table (Form.Pairs t) = pairs_table t
form_table (Form.Whole w) = whole_table w

abbrev pub IsForm : Form → Type 0
IsForm (Form.Pairs t) = IsPairs t
IsForm (Form.Whole w) = IsWhole w

-- a sound dictionary whose table is the next one
pub record IsNext (next : Result Table Place) (is_sound : Type 0) (table : Table) : Type 0 where
  pub formed : next ≡ Ok table
  pub sound : is_sound

-- the next table is that of the whole dictionary, or where there is none that of the pairs
abbrev pub IsPivotedTo : Result Table Place → Pairs → Option Whole → Type 0
IsPivotedTo next t None = IsNext next (IsPairs t) (pairs_table t)
IsPivotedTo next t (Some w) = IsNext next (IsWhole w) (whole_table w)
