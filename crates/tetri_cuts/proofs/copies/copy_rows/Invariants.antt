use Rattle.std.proofs.Common.{take}
use Rattle.tetri_ip.specs.SamePrograms.{SameRows}
use Rattle.tetri_cuts.proofs.copies.copy_rows.Given as goal

abbrev pub invariant-loop-i : goal.invariant-loop-i
invariant-loop-i l = SameRows (take l.i l.p.rows.items) l.copies.items
