use Rattle.std.proofs.Common.{refl, get_or}
use Prim.Native.Nat.{◌/◌}
use Rattle.tetri_dictionary.proofs.HolderBits.{or_keeps, set_own}
use Rattle.tetri_dictionary.proofs.holders.set_bit.Goals as goal

pub returns-clause-own : goal.returns-clause-own
returns-clause-own c = set_own c.args.words.now _ c.args.row (get_or c.args.words.now (c.args.row / 64) 0) c.requires refl

pub returns-clause-more : goal.returns-clause-more
returns-clause-more c = or_keeps c.args.words.now _ (c.args.row / 64) (get_or c.args.words.now (c.args.row / 64) 0) _ c.requires refl refl
