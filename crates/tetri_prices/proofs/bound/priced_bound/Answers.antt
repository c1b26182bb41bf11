use Rattle.std.proofs.Common.{◌≡◌, List, [], ◌≤◌, ◌+◌, ◌/◌, drop, map, sym, subst, ap, ◌∙◌, arith}
use Rattle.std.proofs.lemmas.List.{drop_all}
use Rattle.tetri_base.specs.Lists.{Each, sum_of}
use Rattle.tetri_strl.specs.Tree.{tree}
use Rattle.tetri_space.specs.declared.instance.Offer.{Offer}
use Rattle.tetri_space.specs.Partitions.{live_bids, parts_of, partitions}
use Rattle.tetri_space.specs.Space.{Bid, bid, space}
use Rattle.tetri_space.specs.Total.{total_in}
use Rattle.tetri_prices.specs.Gain.{gain}
use Rattle.tetri_prices.specs.Priced.{bid_gain, cost_for, gain_for, listed, priced_bound, supply_cost}
use Rattle.tetri_prices.specs.Prices.{rows_of}
use Rattle.tetri_prices.proofs.BidLemmas.{all_ready, factor_small, first_holds, first_part, gains_small, IsReadyBid}
use Rattle.tetri_prices.proofs.BoundLemmas.{prices_bound}
use Rattle.tetri_prices.proofs.bound.priced_bound.Goals as goal

pub loop-offer-init : goal.loop-offer-init
loop-offer-init c =
    let s = space c.args.inst.now in
    let p = parts_of c.args.parts.now in
    let price = listed c.args.inst.now.now (rows_of c.args.prices.now) in
    record {
      ready = subst (Each (IsReadyBid s p)) (sym c.offers-offer-items.ensures) (all_ready s c.requires.sound p c.requires.partitions);
      so_far = omega (arith, ap (λ (bs : List Bid). sum_of (bid_gain s (partitions s) price c.args.unit) bs) (c.offers-offer-items.ensures ∙ c.requires.partitions.bids));
    }

pub value_of-requires-clause-few : goal.value_of-requires-clause-few
value_of-requires-clause-few c =
    let s = space c.args.inst.now in
    let ready = first_holds bid c.offers-offer-items.result.now c.loop-offer.offer-index c.offer-item.result c.loop-offer-test.true c.offer-item.is (IsReadyBid s (parts_of c.args.parts.now)) c.loop-offer.invariant.ready in
    factor_small (tree c.offer-item.result.expr) ready.0.sound c.args.unit c.from-times.result c.from-times.ensures c.requires.few

pub overflow_add-gains : goal.overflow_add-gains
overflow_add-gains c =
    let s = space c.args.inst.now in
    let price = listed c.args.inst.now.now (rows_of c.args.prices.now) in
    let f = bid_gain s (partitions s) price c.args.unit in
    let part = first_part bid c.offers-offer-items.result.now c.loop-offer.offer-index c.offer-item.result c.loop-offer-test.true c.offer-item.is f in
    let gained : c.in_ok-value.value.gain ≡ f (bid c.offer-item.result) =
    c.in_ok-value.ensures.value.gain ∙ ap (λ n. gain (cost_for s (partitions s) price) (gain_for s (partitions s) price) (tree c.offer-item.result.expr) n) c.from-times.ensures in
    omega (arith, part, gained, c.loop-offer.invariant.so_far, gains_small s c.requires.sound price c.args.unit c.requires.few)

pub loop-offer-preserved : goal.loop-offer-preserved
loop-offer-preserved c =
    let s = space c.args.inst.now in
    let price = listed c.args.inst.now.now (rows_of c.args.prices.now) in
    let f = bid_gain s (partitions s) price c.args.unit in
    let part = first_part bid c.offers-offer-items.result.now c.loop-offer.offer-index c.offer-item.result c.loop-offer-test.true c.offer-item.is f in
    let ready = first_holds bid c.offers-offer-items.result.now c.loop-offer.offer-index c.offer-item.result c.loop-offer-test.true c.offer-item.is (IsReadyBid s (parts_of c.args.parts.now)) c.loop-offer.invariant.ready in
    let gained : c.in_ok-value.value.gain ≡ f (bid c.offer-item.result) =
    c.in_ok-value.ensures.value.gain ∙ ap (λ n. gain (cost_for s (partitions s) price) (gain_for s (partitions s) price) (tree c.offer-item.result.expr) n) c.from-times.ensures in
    record {
      ready = ready.1;
      so_far = omega (arith, part, gained, c.loop-offer.invariant.so_far);
    }

pub overflow_add-result : goal.overflow_add-result
overflow_add-result c =
    let s = space c.args.inst.now in
    let price = listed c.args.inst.now.now (rows_of c.args.prices.now) in
    omega (arith, c.loop-offer.invariant.so_far, c.supply_of.ensures.small, gains_small s c.requires.sound price c.args.unit c.requires.few)

pub returns-clause-bounds : goal.returns-clause-bounds
returns-clause-bounds c = λ a lawful.
    let s = space c.args.inst.now in
    let price = listed c.args.inst.now.now (rows_of c.args.prices.now) in
    let f = bid_gain s (partitions s) price c.args.unit in
    let over : drop c.loop-offer.offer-index c.offers-offer-items.result.now ≡ [] = drop_all c.loop-offer.offer-index c.offers-offer-items.result.now (omega (arith, c.loop-offer-test.false)) in
    let all : c.loop-offer.gains ≡ sum_of f (live_bids s) = omega (arith, c.loop-offer.invariant.so_far, ap (λ (os : List Offer). sum_of f (map bid os)) over) in
    let is : (c.loop-offer.gains + c.supply_of.result) / c.from.result ≡ priced_bound s c.args.unit price =
    ap (λ n. (n + c.supply_of.result) / c.from.result) all
    ∙ ap (λ n. (sum_of f (live_bids s) + n) / c.from.result) c.supply_of.ensures.cost
    ∙ ap (λ n. (sum_of f (live_bids s) + supply_cost s (partitions s) price) / n) c.from.ensures in
    subst (λ n. total_in s a ≤ n) (sym is) (prices_bound s c.requires.sound c.args.unit price c.requires.some a lawful)
