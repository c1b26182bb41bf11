use Rattle.std.proofs.Common.{◌≡◌, ◌+◌, ◌%◌}
use Rattle.tetri_algebra.specs.Gcd.{gcd_of}
use Rattle.tetri_num.proofs.divisors.gcd_odd.Given as goal

abbrev pub invariant-loop-x : goal.invariant-loop-x
invariant-loop-x l = record { left : l.x % 2 ≡ 1; right : l.y % 2 ≡ 1; kept : gcd_of l.x l.y ≡ gcd_of l.fn.a l.fn.b }

abbrev pub decreases-loop-x : goal.decreases-loop-x
decreases-loop-x l = l.x + l.y
