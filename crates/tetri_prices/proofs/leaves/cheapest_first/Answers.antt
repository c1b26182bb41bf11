use Rattle.std.proofs.Common.{◌^◌}
use Rattle.tetri_prices.proofs.PlaceLemmas.{small_sorted}
use Rattle.tetri_prices.proofs.leaves.cheapest_first.Goals as goal

pub returns-clause-small : goal.returns-clause-small
returns-clause-small c = small_sorted (2 ^ 70) c.in_ok-places.places.items c.order.new.places.items c.in_ok-order.ensures c.in_ok-places.ensures.small
