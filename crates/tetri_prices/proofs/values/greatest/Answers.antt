use Rattle.std.proofs.Common.{arith}
use Rattle.tetri_prices.proofs.JoinLemmas.{greatest_is}
use Rattle.tetri_prices.proofs.values.greatest.Goals as goal

pub returns : goal.returns
returns c =
    let h = c.loop-value.invariant in
    greatest_is c.args.values.now c.loop-value.value-index c.loop-value-test.false c.requires.some c.loop-value.joined (omega (arith, c.requires.cost)) h.top h.gain h.cost
