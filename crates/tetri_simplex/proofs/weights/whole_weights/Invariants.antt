use Rattle.std.proofs.Common.{◌≡◌, ◌<◌, drop, length, All}
use Rattle.std.specs.Prelude.{unsigned_abs}
use Rattle.tetri_simplex.specs.Ends.{whole_weights}
use Rattle.tetri_dictionary.specs.Fractions.{values}
use Rattle.tetri_dictionary.proofs.DictionaryLaws.{onto}
use Rattle.tetri_simplex.proofs.weights.whole_weights.Given as goal

abbrev pub invariant-loop-i : goal.invariant-loop-i
invariant-loop-i l = record {
  formed : onto l.whole.items (whole_weights l.i (unsigned_abs l.q) (drop l.i (values l.weights))) ≡ whole_weights 0 (unsigned_abs l.q) (values l.weights);
  rows : All (λ w. w.row < length l.weights) l.whole.items;
}
