use Rattle.std.proofs.Common.{◌≡◌, ◌==◌, drop}
use Rattle.std.specs.List.{list_any}
use Rattle.tetri_strl.specs.Tree.{numbers, numbers_of, tree, trees}
use Rattle.tetri_strl.proofs.wasting.+has_leaf.Given as goal

abbrev pub invariant-loop-part : goal.invariant-loop-part
invariant-loop-part l = list_any (λ n. n == l.leaf) (numbers_of (trees (drop l.part-index l.part-items))) ≡ list_any (λ n. n == l.leaf) (numbers (tree l.e))
