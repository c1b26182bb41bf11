use Rattle.std.proofs.Common.{◌≡◌, ◌++◌, drop, length}
use Rattle.tetri_space.specs.Partitions.{partitions}
use Rattle.tetri_space.specs.Space.{space}
use Rattle.tetri_assign.specs.steps.Taking.{AreMarks, backs, taken_from}
use Rattle.tetri_assign.proofs.backs.take_nodes.Given as goal

abbrev pub invariant-loop-want : goal.invariant-loop-want
invariant-loop-want l = record {
  as_many : length l.back.items ≡ (space l.inst).nodes;
  marks : AreMarks (partitions (space l.inst)) l.back.items (drop l.want-index l.wants) l.marks.items;
  so_far :
      l.held.items ++ taken_from (partitions (space l.inst)) l.back.items (drop l.want-index l.wants) ≡
      taken_from (partitions (space l.inst)) (backs (space l.inst)) l.wants;
}
