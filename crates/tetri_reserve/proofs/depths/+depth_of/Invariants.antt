use Rattle.std.proofs.Common.{◌≡◌, ◌+◌, drop, max}
use Rattle.tetri_strl.specs.Tree.{tree, trees}
use Rattle.tetri_strl.specs.WellMade.{depth, depth_of}
use Rattle.tetri_reserve.proofs.depths.+depth_of.Given as goal

abbrev pub invariant-loop-part : goal.invariant-loop-part
invariant-loop-part l = max l.deepest (depth_of (trees (drop l.part-index l.part-items))) + 1 ≡ depth (tree l.e)
