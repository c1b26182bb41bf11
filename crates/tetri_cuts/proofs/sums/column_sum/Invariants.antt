use Rattle.std.proofs.Common.{◌≡◌, drop}
use lib.IntN.{pos}
use Rattle.tetri_ip.specs.Forming.{coefficients, form_sum}
use Rattle.tetri_cuts.proofs.sums.column_sum.Given as goal

abbrev pub invariant-loop-w : goal.invariant-loop-w
invariant-loop-w l = form_sum (coefficients l.p.rows.items l.column) (drop l.w-index l.weights) l.sum ≡ form_sum (coefficients l.p.rows.items l.column) l.weights (pos 0)
