use Rattle.std.proofs.Common.{◌<◌, ◌^◌}
use Rattle.tetri_values.proofs.texts.contents.lines_told.Given as goal

abbrev pub invariant-loop : goal.invariant-loop
invariant-loop l = l.offset < 2 ^ 63
