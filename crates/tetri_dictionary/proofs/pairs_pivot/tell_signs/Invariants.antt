use Rattle.std.proofs.Common.{ℕ, ◌<◌, ◌≤◌, length, get_or}
use Rattle.tetri_dictionary.specs.declared.mixed.MixedRow.{MixedRow}
use Rattle.tetri_dictionary.specs.Mixed.{mixed_rows}
use Rattle.tetri_dictionary.specs.PairPivots.{AreTold}
use Rattle.tetri_dictionary.specs.Pairs.{IsWholeRow}
use Rattle.tetri_dictionary.proofs.pairs_pivot.tell_signs.Given as goal

abbrev pub invariant-loop : goal.invariant-loop
invariant-loop l = record {
  told : AreTold l.columns (mixed_rows l.rows) l.origins l.own l.from l.below;
  whole : (q : ℕ) (r : MixedRow) → q < l.from → IsWholeRow l.columns (get_or l.rows q r);
  least : l.counter ≤ l.from;
  most : l.from ≤ length l.rows;
}
