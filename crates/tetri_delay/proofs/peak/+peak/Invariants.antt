use Rattle.std.proofs.Common.{◌≡◌, ◌+◌, ◌-◌, ◌^◌, ◌<◌, max, min, drop}
use Rattle.tetri_strl.specs.Tree.{tree, trees}
use Rattle.tetri_strl.specs.WellMade.{peak, peaks}
use Rattle.tetri_strl.specs.Worth.{added_of, greatest_of}
use Rattle.tetri_delay.proofs.peak.+peak.Given as goal

abbrev pub invariant-loop-part : goal.invariant-loop-part
invariant-loop-part l = record {
  fits : l.best < 2 ^ 64;
  so_far : min (2 ^ 64 - 1) (max l.best (greatest_of (peaks (trees (drop l.part-index l.part-items))))) ≡ min (2 ^ 64 - 1) (peak (tree l.e));
}

abbrev pub invariant-loop-part-2 : goal.invariant-loop-part-2
invariant-loop-part-2 l = record {
  fits : l.best < 2 ^ 64;
  so_far : min (2 ^ 64 - 1) (max l.best (greatest_of (peaks (trees (drop l.part-index l.part-items))))) ≡ min (2 ^ 64 - 1) (peak (tree l.e));
}

abbrev pub invariant-loop-part-3 : goal.invariant-loop-part-3
invariant-loop-part-3 l = record {
  fits : l.sum < 2 ^ 64;
  so_far : min (2 ^ 64 - 1) (l.sum + added_of (peaks (trees (drop l.part-index l.part-items)))) ≡ min (2 ^ 64 - 1) (peak (tree l.e));
}
