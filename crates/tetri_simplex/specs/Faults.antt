-- What a fault says of the end of a run.
use Rattle.std.specs.Prelude.{◌≡◌}
use Rattle.tetri_simplex.specs.Ends.{End, past}
use Rattle.tetri_dictionary.specs.declared.fault.PivotFault.{PivotFault}
use Rattle.tetri_dictionary.specs.declared.fault.PivotFault.TheVariants.{Past, NoMemory}

-- the run ends at the refusal's place, or memory ran out
abbrev pub EndsPast : PivotFault → End → Type 0
EndsPast (Past e) s = s ≡ past e
EndsPast NoMemory s = Unit {0}
