use Rattle.std.proofs.Common.{◌≡◌, ◌++◌, take, string_bytes}
use Rattle.std.specs.Prelude.{flat_map}
use Rattle.tetri_trace.specs.Scenario.{scenario}
use Rattle.tetri_accounts.specs.Text.{row_line}
use Rattle.tetri_accounts.proofs.text.add_rows.Given as goal

abbrev pub invariant-loop-row : goal.invariant-loop-row
invariant-loop-row l = string_bytes l.out ≡ string_bytes l.initial.out ++ flat_map (row_line (scenario l.trace)) (take l.row-index l.rows)
