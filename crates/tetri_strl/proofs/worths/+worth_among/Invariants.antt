use Rattle.std.proofs.Common.{◌≡◌, max, ◌+◌, drop}
use Rattle.tetri_strl.specs.Tree.{tree, trees}
use Rattle.tetri_strl.specs.Worth.{worth_of, worths_by, leaf_worth, greatest_of, least_from, added_of}
use Rattle.tetri_strl.specs.WellMade.{AreSound}
use Rattle.tetri_strl.proofs.worths.+worth_among.Given as goal

abbrev pub invariant-loop-part : goal.invariant-loop-part
invariant-loop-part l = record {
  sound : AreSound (trees (drop l.part-index l.part-items));
  so_far : max l.best (greatest_of (worths_by (leaf_worth l.grants l.job) (trees (drop l.part-index l.part-items)))) ≡ worth_of l.grants l.job (tree l.e);
}

abbrev pub invariant-loop-part-2 : goal.invariant-loop-part-2
invariant-loop-part-2 l = record {
  sound : AreSound (trees (drop l.part-index l.part-items));
  so_far : least_from l.low (worths_by (leaf_worth l.grants l.job) (trees (drop l.part-index l.part-items))) ≡ worth_of l.grants l.job (tree l.e);
}

abbrev pub invariant-loop-part-3 : goal.invariant-loop-part-3
invariant-loop-part-3 l = record {
  sound : AreSound (trees (drop l.part-index l.part-items));
  so_far : l.sum + added_of (worths_by (leaf_worth l.grants l.job) (trees (drop l.part-index l.part-items))) ≡ worth_of l.grants l.job (tree l.e);
}
