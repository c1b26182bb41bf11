use Rattle.std.proofs.Common.{ℕ, ◌<◌, get_or}
use Rattle.tetri_dictionary.specs.declared.mixed.MixedRow.{MixedRow}
use Rattle.tetri_dictionary.specs.Pairs.{IsWholeRow}
use Rattle.tetri_dictionary.proofs.pairs_start.are_whole.Given as goal

abbrev pub invariant-loop-k : goal.invariant-loop-k
invariant-loop-k l = (q : ℕ) (d : MixedRow) → q < l.k → IsWholeRow l.columns (get_or l.rows q d)
