use Rattle.std.proofs.Common.{◌≡◌, ◌≤◌, ◌+◌, ◌-◌, ◌*◌, ◌^◌, drop}
use Rattle.tetri_prices.specs.Filling.{fill}
use Rattle.tetri_prices.proofs.filling.fill.Given as goal

abbrev pub invariant-loop-place : goal.invariant-loop-place
invariant-loop-place l = record {
  so_far : l.spent + fill (λ p. p.cost) (λ p. p.capacity) l.left (drop l.place-index l.places) ≡ fill (λ p. p.cost) (λ p. p.capacity) l.fn.count l.fn.places;
  few : l.left ≤ l.fn.count;
  small : l.spent ≤ (l.fn.count - l.left) * 2 ^ 70;
}
