use Rattle.std.proofs.Common.{◌≡◌, ◌==◌, drop}
use Rattle.std.specs.List.{find}
use Rattle.tetri_strl.specs.declared.expr.Leaf.{Leaf}
use Rattle.tetri_strl.specs.Tree.{leaves, leaves_of, tree, trees}
use Rattle.tetri_space.proofs.leaves.+leaf_numbered.Given as goal

abbrev pub invariant-loop-part : goal.invariant-loop-part
invariant-loop-part l =
    find (λ (m : Leaf). m.num == l.num) (leaves_of (trees (drop l.part-index l.part-items))) ≡ find (λ (m : Leaf). m.num == l.num) (leaves (tree l.e))
