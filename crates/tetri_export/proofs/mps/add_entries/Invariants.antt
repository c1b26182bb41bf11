use Rattle.std.proofs.Common.{◌≡◌, ◌++◌, drop, map, string_bytes}
use Rattle.std.specs.Prelude.{flat_map}
use Rattle.tetri_export.specs.Mps.{entry_text}
use Rattle.tetri_export.proofs.mps.add_entries.Given as goal

abbrev pub invariant-loop-entry : goal.invariant-loop-entry
invariant-loop-entry l = string_bytes l.out ++ flat_map (entry_text (map string_bytes l.names) l.name) (drop l.entry-index l.entries)
    ≡ string_bytes l.fn.out ++ flat_map (entry_text (map string_bytes l.names) l.name) l.entries
