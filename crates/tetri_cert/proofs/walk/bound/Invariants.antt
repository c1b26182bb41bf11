use Rattle.std.proofs.Common.{◌≡◌, drop}
use Rattle.tetri_cert.specs.Trees.{tree_bound}
use Rattle.tetri_cert.specs.Walks.{IsOver, tells}
use Rattle.tetri_cert.proofs.walk.bound.Given as goal

abbrev pub invariant-loop-mark : goal.invariant-loop-mark
invariant-loop-mark l = record {
  over : IsOver l.p l.walk;
  node : l.walk.node ≡ l.mark-index;
  tells : tells l.walk l.p (drop l.mark-index l.marks) ≡ tree_bound l.p l.marks;
}
