use Rattle.std.proofs.Common.{◌≡◌, take}
use Rattle.tetri_report.proofs.differences.first_difference.Given as goal

abbrev pub invariant-loop-place : goal.invariant-loop-place
invariant-loop-place l = take l.place l.told ≡ take l.place l.expected
