use Rattle.std.proofs.Common.{◌≡◌, ◌++◌, drop}
use Rattle.tetri_strl.specs.Tree.{numbers, numbers_of, tree, trees}
use Rattle.tetri_strl.proofs.trimming.+add_numbers.Given as goal

abbrev pub invariant-loop-part : goal.invariant-loop-part
invariant-loop-part l = l.out.items ++ numbers_of (trees (drop l.part-index l.part-items)) ≡ l.fn.out.items ++ numbers (tree l.e)
