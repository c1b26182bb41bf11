use Rattle.std.proofs.Common.{◌≡◌, drop}
use Rattle.tetri_ip.specs.Forming.{form_factor}
use Rattle.tetri_ip.proofs.weighing.factor.Given as goal

abbrev pub invariant-loop-w : goal.invariant-loop-w
invariant-loop-w l = form_factor l.p.rows.items (drop l.w-index l.weights) l.column l.rest ≡ form_factor l.p.rows.items l.weights l.column l.cost
