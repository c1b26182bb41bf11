use Rattle.std.proofs.Common.{◌≡◌, take}
use Rattle.tetri_judge.specs.Seen.{WalksTree}
use Rattle.tetri_space.specs.Space.{space}
use Rattle.tetri_judge.proofs.tree_walk.see_tree.Given as goal

abbrev pub invariant-loop-mark : goal.invariant-loop-mark
invariant-loop-mark l = record {
  fed : l.walk.fed ≡ l.mark-index;
  walks : WalksTree (space l.inst) (take l.mark-index l.marks) l.walk;
}
