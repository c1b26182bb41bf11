use Rattle.std.proofs.Common.{◌≡◌, ℕ, ◌<◌}
use Rattle.tetri_ip.specs.Points.{number_at}
use Rattle.tetri_swift.proofs.single.find_open.Given as goal

abbrev pub invariant-loop-j : goal.invariant-loop-j
invariant-loop-j l = (k : ℕ) → k < l.j → number_at l.r.lower.items k ≡ number_at l.r.upper.items k
