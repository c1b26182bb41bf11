use Rattle.std.proofs.Common.{arith}
use Rattle.tetri_prices.proofs.JoinLemmas.{added_has, greatest_has, least_is}
use Rattle.tetri_prices.proofs.values.lowest.Goals as goal

pub overflow_add-value : goal.overflow_add-value
overflow_add-value c =
    let vs = c.args.values.now in
    let i = c.loop-value.value-index in
    omega (
      arith,
      greatest_has (λ v. v.gain) vs i (record { top = 0; gain = 0; cost = 0 }) c.loop-value-test.true,
      added_has (λ v. v.cost) vs i (record { top = 0; gain = 0; cost = 0 }) c.loop-value-test.true,
      c.requires.gain,
      c.requires.cost,
    )

pub returns : goal.returns
returns c =
    let h = c.loop-value.invariant in
    least_is c.args.values.now c.loop-value.value-index c.loop-value-test.false c.requires.some
    (record { top = c.loop-value.top; gain = c.saturating_sub.result; cost = c.loop-value.cost }) c.loop-value.gross 18446744073709551615
    (omega (arith, c.requires.top)) (omega (arith, c.requires.gain, c.requires.cost)) h.top h.gross h.cost c.saturating_sub.ensures
