use Rattle.std.proofs.Common.{ℕ, ◌+◌, ◌<◌, ◌≤◌, length}
use Rattle.tetri_dictionary.specs.Sparse.{place_at}
use Rattle.tetri_dictionary.proofs.lines.find.Given as goal

abbrev pub invariant-loop-count : goal.invariant-loop-count
invariant-loop-count l = record {
  some : 0 < l.count;
  inside : l.low + l.count ≤ length l.entries;
  before : (k : ℕ) → k < l.low → place_at l.entries k < l.place;
  after : (k : ℕ) → l.low + l.count ≤ k → k < length l.entries → l.place < place_at l.entries k;
}

abbrev pub decreases-loop-count : goal.decreases-loop-count
decreases-loop-count l = l.count
