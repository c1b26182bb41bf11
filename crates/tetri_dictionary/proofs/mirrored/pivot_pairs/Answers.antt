use Rattle.tetri_dictionary.proofs.PairForms.{pairs_bounded}
use Rattle.tetri_dictionary.proofs.mirrored.pivot_pairs.Goals as goal

pub written_out-requires-clause-bounded : goal.written_out-requires-clause-bounded
written_out-requires-clause-bounded c = pairs_bounded c.keep_row.new.t c.keep_row.ensures.sound
