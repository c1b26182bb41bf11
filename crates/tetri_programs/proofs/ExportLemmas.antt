-- What is exported of a state's instance is exported of its cycle.
use Rattle.std.proofs.Common.{ℕ}
use Rattle.tetri_export.specs.declared.format.Format.{Format}
use Rattle.tetri_state.specs.Planning.{instance_of}
use Rattle.tetri_state.specs.Snapshot.{Snapshot}
use Rattle.tetri_trace.specs.Scenario.{Scenario}
use Rattle.tetri_programs.specs.Exported.{IsAtCycle, IsExport, IsExportOf}
use Rattle.tetri_programs.specs.declared.instance.Exported.{Exported}
use Rattle.tetri_programs.specs.declared.instance.Exported.TheVariants.{NoCycle, Text, Wide}

pub export_at : (t : Scenario) (f : Format) (cycle : ℕ) (s : Snapshot) → IsAtCycle t cycle s → (e : Exported) → IsExportOf f t.nodes (instance_of t s) e → IsExport t f cycle e
export_at t f cycle s at (Text text) of = (s, at, of)
export_at t f cycle s at (Wide columns rows) of = (s, at, of)
export_at t f cycle s at NoCycle of = absurd of
