use Rattle.std.proofs.Common.{refl, get_or}
use Prim.Native.Nat.{◌/◌}
use Rattle.tetri_dictionary.proofs.HolderBits.{clear_other}
use Rattle.tetri_dictionary.proofs.holders.clear_bit.Goals as goal

pub returns-then-place-words : goal.returns-then-place-words
returns-then-place-words c = clear_other c.args.words.now _ c.args.row (get_or c.args.words.now (c.args.row / 64) 0) c.if-place-words.true refl refl
