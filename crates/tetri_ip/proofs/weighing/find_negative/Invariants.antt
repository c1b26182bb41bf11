use Rattle.std.proofs.Common.{◌≡◌, drop}
use Rattle.tetri_ip.specs.Forming.{first_negative}
use Rattle.tetri_ip.proofs.weighing.find_negative.Given as goal

abbrev pub invariant-loop-w : goal.invariant-loop-w
invariant-loop-w l = first_negative (drop l.w-index l.weights) ≡ first_negative l.weights
