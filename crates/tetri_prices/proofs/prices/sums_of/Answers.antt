use Rattle.std.proofs.Common.{◌+◌, ◌∷◌, [], get_or, length, ap, ◌∙◌, arith}
use Rattle.std.proofs.lemmas.List.{length-append}
use Rattle.tetri_prices.specs.Prices.{IsSum}
use Rattle.tetri_prices.proofs.LoopLemmas.{each_item, prefix_next}
use Rattle.tetri_prices.proofs.prices.sums_of.Goals as goal

pub loop-price-preserved : goal.loop-price-preserved
loop-price-preserved c =
    let prices = c.args.prices.now in
    let k = c.loop-price.price-index in
    let h = c.loop-price.invariant in
    let old = c.loop-price.sums.items in
    let pushed = c.in_ok-push-2.ensures.items in
    let sum = c.loop-price.sum + get_or prices k 0 in
    let next : IsSum prices (k + 1) sum = record {
      sum = omega (arith, h.last.sum, prefix_next (λ i. get_or prices i 0) k);
      small = omega (arith, h.last.small);
    } in
    record {
      long = ap length pushed ∙ length-append old (sum ∷ []) ∙ ap (λ n. n + 1) h.long;
      each = each_item (IsSum prices) old c.push-in-loop-price.new.self.items sum (k + 1) h.long pushed h.each next;
      last = next;
    }
