use Rattle.std.proofs.Common.{get_or}
use Prim.Native.Nat.{◌/◌}
use Rattle.tetri_dictionary.proofs.HolderBits.{fits_word, rest_below, rest_none, word_below}
use Rattle.tetri_dictionary.proofs.holders.next_set.Goals as goal

pub returns-then-rest-ne0-clause-between : goal.returns-then-rest-ne0-clause-between
returns-then-rest-ne0-clause-between c = rest_below c.args.words.now c.args.from c.args.end c.min.result (fits_word (get_or c.args.words.now (c.args.from / 64) 0) (c.type_inv.words (c.args.from / 64))) c.if-rest-ne0.true c.min.ensures

pub loop-place-init : goal.loop-place-init
loop-place-init c = λ q l m. rest_none c.args.words.now c.args.from q c.if-rest-ne0.false l m

pub returns-then-words-place-ne0-clause-between : goal.returns-then-words-place-ne0-clause-between
returns-then-words-place-ne0-clause-between c =
    word_below c.args.words.now c.args.from c.args.end c.loop-place.place c.min-then-words-place-ne0.result (fits_word (get_or c.args.words.now c.loop-place.place 0) (c.type_inv.words c.loop-place.place)) c.if-words-place-ne0.true c.loop-place.invariant c.min-then-words-place-ne0.ensures
