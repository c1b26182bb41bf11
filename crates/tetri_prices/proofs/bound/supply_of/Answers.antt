use Rattle.std.proofs.Common.{◌≡◌, ℕ, List, [], ◌+◌, ◌-◌, ◌*◌, ◌<◌, length, get_or, ap, ◌∙◌, arith}
use Rattle.std.proofs.lemmas.List.{length-map}
use Rattle.tetri_base.specs.Lists.{sum_of}
use Rattle.tetri_space.specs.Partitions.{available, partitions}
use Rattle.tetri_space.specs.Space.{space}
use Rattle.tetri_prices.specs.Priced.{listed, window_slots}
use Rattle.tetri_prices.specs.Prices.{rows_of}
use Rattle.tetri_prices.proofs.LoopLemmas.{range_sum_next}
use Rattle.tetri_prices.proofs.bound.supply_of.Goals as goal

pub row-requires : goal.row-requires
row-requires c = omega (arith, c.loop-part-test.true, c.count-part-end.ensures, ap (λ (gs : List (List ℕ)). length gs) c.requires.partitions.groups, c.requires.prices.rows.count, length-map c.args.prices.now.rows.items (λ v. v.items))

pub part_supply-cost-requires-clause-there : goal.part_supply-cost-requires-clause-there
part_supply-cost-requires-clause-there c = omega (arith, c.loop-part-test.true, c.count-part-end.ensures, ap (λ (gs : List (List ℕ)). length gs) c.requires.partitions.groups)

pub part_supply-cost-requires-clause-long : goal.part_supply-cost-requires-clause-long
part_supply-cost-requires-clause-long c =
    let there : c.loop-part.part < length (rows_of c.args.prices.now) =
    omega (arith, c.loop-part-test.true, c.count-part-end.ensures, ap (λ (gs : List (List ℕ)). length gs) c.requires.partitions.groups, c.requires.prices.rows.count) in
    ap (λ (r : List ℕ). length r) c.row.ensures ∙ c.requires.prices.rows.long c.loop-part.part [] there

pub loop-part-preserved : goal.loop-part-preserved
loop-part-preserved c =
    let s = space c.args.inst.now in
    let now = c.args.inst.now.now in
    let part = c.loop-part.part in
    let f = λ (p : ℕ). sum_of (λ t. listed now (rows_of c.args.prices.now) p t * available s (partitions s) p t) (window_slots s) in
    let at : part ≡ 0 + part = omega arith in
    let here : c.part_supply-cost.result ≡ f (0 + part) =
    c.part_supply-cost.ensures.cost
    ∙ ap (λ (r : List ℕ). sum_of (λ t. get_or r (t - now) 0 * available s (partitions s) part t) (window_slots s)) c.row.ensures
    ∙ ap f at in
    let within : part < length (partitions s) = omega (arith, c.loop-part-test.true, c.count-part-end.ensures, ap (λ (gs : List (List ℕ)). length gs) c.requires.partitions.groups) in
    record {
      so_far = range_sum_next f 0 (length (partitions s)) part c.loop-part.cost c.part_supply-cost.result _ within here c.loop-part.invariant.so_far;
      small = omega (arith, c.part_supply-cost.ensures.small, c.loop-part.invariant.small);
    }
