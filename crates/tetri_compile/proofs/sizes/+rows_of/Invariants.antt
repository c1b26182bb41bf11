use Rattle.std.proofs.Common.{◌≡◌, ◌+◌, drop}
use Rattle.tetri_strl.specs.Tree.{tree, trees}
use Rattle.tetri_compile.specs.Sizes.{row_total, row_totals, row_totals_under}
use Rattle.tetri_compile.proofs.sizes.+rows_of.Given as goal

abbrev pub invariant-loop-kid-2 : goal.invariant-loop-kid-2
invariant-loop-kid-2 l = l.rows + row_totals (trees (drop l.kid-index l.kid-items)) ≡ row_total (tree l.e)

abbrev pub invariant-loop-kid : goal.invariant-loop-kid
invariant-loop-kid l = l.rows + row_totals_under (trees (drop l.kid-index l.kid-items)) ≡ row_total (tree l.e)
