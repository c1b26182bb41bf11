-- What a fault says of what was to be formed.
use Rattle.std.specs.Prelude.{◌≡◌, Result, Err}
use Rattle.tetri_num.specs.declared.places.Place.{Place}
use Rattle.tetri_dictionary.specs.declared.fault.PivotFault.{PivotFault}
use Rattle.tetri_dictionary.specs.declared.fault.PivotFault.TheVariants.{Past, NoMemory}

-- the first refusal, or memory ran out
abbrev pub IsFault : {A : Type 0} → PivotFault → Result A Place → Type 0
IsFault (Past e) s = s ≡ Err e
IsFault NoMemory s = Unit {0}
