use Rattle.std.proofs.Common.{◌≡◌, drop}
use lib.IntN.{pos}
use Rattle.tetri_ip.specs.Forming.{form_right}
use Rattle.tetri_ip.proofs.weighing.right_sum.Given as goal

abbrev pub invariant-loop-w : goal.invariant-loop-w
invariant-loop-w l = form_right l.p.rows.items (drop l.w-index l.weights) l.sum ≡ form_right l.p.rows.items l.weights (pos 0)
