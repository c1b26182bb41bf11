use Rattle.std.proofs.Common.{◌≡◌, take}
use Rattle.tetri_queue.proofs.confirming.same_closures.Given as goal

abbrev pub invariant-loop-i : goal.invariant-loop-i
invariant-loop-i l = take l.i l.read ≡ take l.i l.meant
