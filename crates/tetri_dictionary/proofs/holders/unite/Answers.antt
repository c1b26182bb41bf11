use Rattle.std.proofs.Common.{◌<◌, length, get_or, refl, arith}
use Rattle.tetri_dictionary.proofs.HolderBits.{or_keeps, or_takes, past_words}
use Rattle.tetri_dictionary.proofs.holders.unite.Goals as goal

pub loop-k-preserved : goal.loop-k-preserved
loop-k-preserved c =
    let ws = c.loop-k.words in
    let os = c.args.others.now in
    let k = c.loop-k.k in
    let l : k < length ws = omega (arith, c.loop-k-test.true, c.loop-k.auto.words) in
    record {
      own = λ q e. c.loop-k.invariant.own q (or_keeps ws _ k (get_or ws k 0) (get_or os k 0) l refl refl q e);
      others = or_takes ws os _ k (get_or ws k 0) (get_or os k 0) l refl refl c.loop-k.invariant.others;
    }

pub returns-clause-own : goal.returns-clause-own
returns-clause-own c = c.loop-k.invariant.own

pub returns-clause-others : goal.returns-clause-others
returns-clause-others c =
    past_words c.loop-k.words c.args.others.now c.loop-k.k (omega (arith, c.requires, c.loop-k.auto.words)) (omega (arith, c.loop-k-test.false, c.loop-k.auto.words)) c.loop-k.invariant.others
