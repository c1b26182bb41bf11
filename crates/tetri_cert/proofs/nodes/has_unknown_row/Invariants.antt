use Rattle.std.proofs.Common.{◌≡◌, drop}
use Rattle.std.specs.List.{list_any}
use Rattle.tetri_cert.specs.NodeBounds.{is_unknown_row}
use Rattle.tetri_cert.proofs.nodes.has_unknown_row.Given as goal

abbrev pub invariant-loop-w : goal.invariant-loop-w
invariant-loop-w l = list_any (is_unknown_row l.rows) (drop l.w-index l.weights) ≡ list_any (is_unknown_row l.rows) l.weights
