use Rattle.std.proofs.Common.{◌≡◌, ◌<◌, ◌∙◌, ◌++◌, length, take, get_or, ap, sym, subst}
use Rattle.tetri_trace.specs.Scenario.{scenario}
use Rattle.tetri_queue.specs.Orders.{IsOrder, order_of, orders_text}
use Rattle.tetri_queue.proofs.MoreLemmas.{all_more, flat_more}
use Rattle.tetri_queue.proofs.ordering.orders_text.Goals as goal

pub loop-piece-preserved : goal.loop-piece-preserved
loop-piece-preserved c =
    let t = scenario c.args.trace.now in
    let items = c.args.launches.now.pieces.items in
    let i = c.loop-piece.piece-index in
    let p = c.piece-item.result in
    let is : p ≡ get_or items i p = c.piece-item.is ∙ ap (λ xs. get_or xs i p) c.deref-piece-items.ensures.value in
    let lt : i < length items = subst (λ xs. i < length xs) c.deref-piece-items.ensures.value c.loop-piece-test.true in
    record {
      orders = all_more (IsOrder t) items i p lt c.loop-piece.invariant.orders (subst (IsOrder t) is c.in_ok-add_order.ensures.order);
      text = c.in_ok-add_order.ensures.text
          ∙ ap (λ xs. xs ++ order_of c.args.form t p) c.loop-piece.invariant.text
          ∙ ap (λ q. orders_text c.args.form t (take i items) ++ order_of c.args.form t q) is
          ∙ sym (flat_more (order_of c.args.form t) items i p lt);
    }
