use Rattle.std.proofs.Common.{◌≡◌, ◌++◌, drop, string_bytes}
use Rattle.tetri_trace.specs.Scenario.{scenario}
use Rattle.tetri_report.specs.Text.{grant_lines}
use Rattle.tetri_report.proofs.lines.add_grant_lines.Given as goal

abbrev pub invariant-loop-i : goal.invariant-loop-i
invariant-loop-i l =
    string_bytes l.out ++ grant_lines (scenario l.trace) (drop l.i l.grants) (drop l.i l.starts) ≡ string_bytes l.initial.out ++ grant_lines (scenario l.trace) l.grants l.starts
