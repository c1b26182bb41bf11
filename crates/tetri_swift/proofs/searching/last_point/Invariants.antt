use Rattle.std.proofs.Common.{◌≡◌, drop, None}
use Rattle.tetri_search.specs.Follow.{last_whole}
use Rattle.tetri_swift.proofs.searching.last_point.Given as goal

abbrev pub invariant-loop-i : goal.invariant-loop-i
invariant-loop-i l = last_whole (drop l.i l.marks) ≡ None
