use Rattle.std.proofs.Common.{◌≡◌, ◌++◌, drop, cond}
use Rattle.tetri_strl.specs.Tree.{tree, trees, numbers_of}
use Rattle.tetri_strl.specs.Trim.{idle, idle_each, idle_but_first}
use Rattle.tetri_strl.specs.WellMade.{AreSound}
use Rattle.tetri_strl.specs.Worth.{leaf_worth}
use Rattle.tetri_strl.proofs.trimming.+add_idle.Given as goal

abbrev pub invariant-add_idle-loop-part : goal.invariant-add_idle-loop-part
invariant-add_idle-loop-part l = record {
  sound : AreSound (trees (drop l.part-index l.part-items));
  so_far :
      l.out.items ++ idle_each (leaf_worth l.grants l.job) (trees (drop l.part-index l.part-items)) ≡
      l.fn.out.items ++ idle (leaf_worth l.grants l.job) (tree l.e);
}

abbrev pub invariant-add_idle_but_first-loop-part : goal.invariant-add_idle_but_first-loop-part
invariant-add_idle_but_first-loop-part l = record {
  sound : AreSound (trees (drop l.part-index l.parts));
  so_far :
      l.out.items
      ++ cond l.found (numbers_of (trees (drop l.part-index l.parts))) (idle_but_first (leaf_worth l.grants l.job) l.best (trees (drop l.part-index l.parts))) ≡
      l.fn.out.items ++ idle_but_first (leaf_worth l.grants l.job) l.best (trees l.parts);
}
