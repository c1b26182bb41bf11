use Rattle.std.proofs.Common.{◌≡◌, drop, take}
use Rattle.tetri_logs.specs.Origin.{gap_after, last_second}
use Rattle.tetri_logs.proofs.origin.gap_after.Given as goal

abbrev pub invariant-loop-i : goal.invariant-loop-i
invariant-loop-i l = gap_after l.settings l.last l.jobs ≡ gap_after l.settings (last_second l.settings l.last (take l.i l.jobs)) (drop l.i l.jobs)
