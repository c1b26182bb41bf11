use Rattle.std.proofs.Common.{◌≡◌, ◌≤◌, length}
use Rattle.tetri_simplex.proofs.FirstPlaces.{AreFirstFrom}
use Rattle.tetri_simplex.proofs.first_places.first_places.Given as goal

abbrev pub invariant-loop-k : goal.invariant-loop-k
invariant-loop-k l = record {
  inside : l.k ≤ length l.variables;
  count : length l.places.items ≡ l.count;
  places : AreFirstFrom l.variables l.k l.first l.count l.places.items;
}

abbrev pub decreases-loop-k : goal.decreases-loop-k
decreases-loop-k l = l.k
