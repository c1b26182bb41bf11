use Rattle.std.proofs.Common.{◌≡◌, length, arith}
use Rattle.tetri_dictionary.proofs.WrittenOut.{all_bits_hold}
use Rattle.tetri_dictionary.proofs.pairs_out.all_bits.Goals as goal

pub returns : goal.returns
returns c =
    let e : length c.loop.holders.items ≡ c.args.columns = omega (arith, c.loop.invariant.columns, c.loop.auto.counter-end, c.loop-test.false) in
    all_bits_hold c.args.columns c.args.rows.now c.loop.holders.items e c.loop.invariant.full
