use Rattle.std.proofs.Common.{◌≡◌, ◌+◌, ◌-◌, ◌*◌, ◌≤◌, length}
use Rattle.tetri_cert.specs.Trees.{nodes_in}
use Rattle.tetri_search.specs.Follow.{best_behind}
use Rattle.tetri_swift.specs.Fronts.{IsOver, regions_of}
use Rattle.tetri_swift.proofs.LoopLemmas.{Begins}
use Rattle.tetri_swift.proofs.searching.grow.Given as goal

abbrev pub invariant-tree : goal.invariant-tree
invariant-tree g l = record {
  factors : length l.factors ≡ length l.p.costs.items;
  over : IsOver l.p l.front;
  begins : Begins l.p l.low l.budget l.marks (regions_of l.front) l.best l.used;
  best_is : l.best ≡ best_behind l.low l.marks;
  used_is : l.used ≡ nodes_in l.marks;
  within : l.used ≤ l.budget;
}

abbrev pub decreases-tree : goal.decreases-tree
decreases-tree g l = 2 * (l.budget - l.used) + length (regions_of l.front)
