use Rattle.std.proofs.Common.{◌≡◌, ◌++◌, map, drop}
use Rattle.tetri_strl.specs.Prune.{pruned_of, kept}
use Rattle.tetri_strl.specs.Tree.{tree, trees}
use Rattle.tetri_strl.proofs.pruning.+keep.Given as goal

abbrev pub invariant-keep_parts-loop-part : goal.invariant-keep_parts-loop-part
invariant-keep_parts-loop-part l =
    map tree l.left.items ++ kept (pruned_of l.from l.to (trees (drop l.part-index l.parts))) ≡ kept (pruned_of l.from l.to (trees l.parts))
