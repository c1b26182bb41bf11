use Rattle.std.proofs.Common.{◌≡◌, ◌<◌, ◌++◌, List, ℕ, get_or, length, sym, ap, ◌∙◌, arith}
use Rattle.tetri_base.proofs.ListLaws.{flat_map-next}
use Rattle.tetri_prices.specs.Prices.{rows_of}
use Rattle.tetri_space.specs.Partitions.{part_at, partitions}
use Rattle.tetri_space.specs.Space.{space}
use Rattle.tetri_priced.specs.Lowest.{least_node, part_prices}
use Rattle.tetri_priced.proofs.LowestLemmas.{part_is, row_long}
use Rattle.tetri_priced.proofs.lowest.prices_above_zero.Goals as goal

pub row-prices-requires : goal.row-prices-requires
row-prices-requires c = omega (arith, c.requires.quote.prices.rows.count, ap length c.requires.partitions.groups)

pub add_prices-requires-clause-few : goal.add_prices-requires-clause-few
add_prices-requires-clause-few c =
    let s = space c.args.inst.now in
    let there : c.loop-part.part < length (partitions s) = omega (arith, ap length c.requires.partitions.groups) in
    omega (arith, row_long s (rows_of c.args.quote.now.prices) c.loop-part.part c.row-prices.result.now c.requires.quote.prices.rows there c.row-prices.ensures)

pub loop-part-preserved : goal.loop-part-preserved
loop-part-preserved c =
    let s = space c.args.inst.now in
    let unit = c.args.quote.now.unit in
    let rows = rows_of c.args.quote.now.prices in
    let part = c.loop-part.part in
    let there : part < length (partitions s) = omega (arith, ap length c.requires.partitions.groups) in
    let least : c.least_node-node.result ≡ least_node s part = c.least_node-node.ensures ∙ ap (λ (gs : List (List ℕ)). get_or (part_at gs part) 0 0) c.requires.partitions.groups in
    c.in_ok-add_prices.ensures
    ∙ ap (λ xs. c.loop-part.told.items ++ xs)
    (part_is s unit rows part c.least_node-node.result c.row-prices.result.now least c.row-prices.ensures (row_long s rows part c.row-prices.result.now c.requires.quote.prices.rows there c.row-prices.ensures))
    ∙ ap (λ xs. xs ++ part_prices s unit rows part) c.loop-part.invariant
    ∙ sym (flat_map-next (part_prices s unit rows) part)
