-- What an export makes of a cycle of a run.
use Rattle.std.specs.Prelude.{◌≡◌, ◌<◌, ◌≤◌, ◌^◌, ℕ, List, take, string_bytes}
use Rattle.tetri_cluster.specs.declared.cluster.NodeText.{NodeText}
use Rattle.tetri_compile.specs.Flat.{column_count, row_count}
use Rattle.tetri_cycles.specs.Observed.{behind}
use Rattle.tetri_export.specs.declared.format.Format.{Format}
use Rattle.tetri_report.specs.Block.{Block}
use Rattle.tetri_run.specs.Check.{IsAssured}
use Rattle.tetri_run.specs.Run.{in_order}
use Rattle.tetri_space.specs.Space.{Space}
use Rattle.tetri_state.specs.Planning.{instance_at, instance_of}
use Rattle.tetri_state.specs.Reached.{IsReached, begun}
use Rattle.tetri_state.specs.Snapshot.{Snapshot, opening_state}
use Rattle.tetri_trace.specs.Scenario.{Scenario}
use Rattle.tetri_programs.specs.Text.{TellsProgram}
use Rattle.tetri_programs.specs.declared.instance.Exported.{Exported}
use Rattle.tetri_programs.specs.declared.instance.Exported.TheVariants.{NoCycle, Text, Wide}

-- what is exported of an instance over these nodes: its program, or how large that would be where its columns have no numbers of 31 bits
abbrev pub IsExportOf : Format → List NodeText → Space → Exported → Type 0
IsExportOf f nodes s (Text text) = TellsProgram f nodes s (string_bytes text)
IsExportOf f nodes s (Wide columns rows) = (2 ^ 31 ≤ column_count s) × (columns ≡ column_count s) × (rows ≡ row_count s)
IsExportOf f nodes s NoCycle = ⊥

-- the state of a run as the cycle of this number is planned
pub record IsAtCycle (t : Scenario) (cycle : ℕ) (s : Snapshot) : Type 0 where
  pub reached : IsReached t begun s
  pub now : s.now ≡ cycle

-- What is exported of the cycle of this number: of the instance that it has in some run of the trace,
-- or that a run has no such cycle.
abbrev pub IsExport : Scenario → Format → ℕ → Exported → Type 0
IsExport t f cycle NoCycle = t.header.until ≤ cycle
IsExport t f cycle (Text text) = (s : Snapshot) × IsAtCycle t cycle s × IsExportOf f t.nodes (instance_of t s) (Text text)
IsExport t f cycle (Wide columns rows) = (s : Snapshot) × IsAtCycle t cycle s × IsExportOf f t.nodes (instance_of t s) (Wide columns rows)

-- What is exported of the cycle of this number of a run with these cycles, the first one first: of the
-- instance that it has behind those before it.
abbrev pub IsExportIn : Scenario → List Block → Format → ℕ → Exported → Type 0
IsExportIn t blocks f cycle NoCycle = t.header.until ≤ cycle
IsExportIn t blocks f cycle (Text text) =
    (cycle < t.header.until) × IsExportOf f t.nodes (instance_at t (behind t (opening_state t) (take cycle blocks))) (Text text)
IsExportIn t blocks f cycle (Wide columns rows) =
    (cycle < t.header.until) × IsExportOf f t.nodes (instance_at t (behind t (opening_state t) (take cycle blocks))) (Wide columns rows)

-- the report is accepted, and this is exported of the cycle of its run
pub record IsReportExport (t : Scenario) (report : List ℕ) (f : Format) (cycle : ℕ) (e : Exported) : Type 0 where
  pub assured : IsAssured t report
  pub export : IsExportIn t (in_order assured.accepted.past) f cycle e
