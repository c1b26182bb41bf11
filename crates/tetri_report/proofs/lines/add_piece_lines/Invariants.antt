use Rattle.std.proofs.Common.{◌≡◌, ◌++◌, take, string_bytes}
use Rattle.std.specs.Prelude.{flat_map}
use Rattle.tetri_trace.specs.Scenario.{scenario}
use Rattle.tetri_report.specs.Text.{piece_line}
use Rattle.tetri_report.proofs.lines.add_piece_lines.Given as goal

abbrev pub invariant-loop-piece : goal.invariant-loop-piece
invariant-loop-piece l = string_bytes l.out ≡ string_bytes l.initial.out ++ flat_map (piece_line (scenario l.trace) l.word) (take l.piece-index l.pieces)
