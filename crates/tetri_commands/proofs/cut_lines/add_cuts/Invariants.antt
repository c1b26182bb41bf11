use Rattle.std.proofs.Common.{◌≡◌, ◌++◌, take, string_bytes}
use Rattle.std.specs.Prelude.{flat_map}
use Rattle.tetri_commands.specs.TightText.{cut_line}
use Rattle.tetri_commands.proofs.cut_lines.add_cuts.Given as goal

abbrev pub invariant-loop-cut : goal.invariant-loop-cut
invariant-loop-cut l = string_bytes l.out ≡ string_bytes l.initial.out ++ flat_map cut_line (take l.cut-index l.cuts)
