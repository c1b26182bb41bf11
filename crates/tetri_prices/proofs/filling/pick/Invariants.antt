use Rattle.std.proofs.Common.{◌≡◌, ◌≤◌, ◌+◌, ◌-◌, ◌*◌, ◌^◌, drop}
use Rattle.tetri_prices.specs.Filling.{pick}
use Rattle.tetri_prices.proofs.filling.pick.Given as goal

abbrev pub invariant-loop-place : goal.invariant-loop-place
invariant-loop-place l = record {
  so_far : l.gained + pick (λ p. p.cost) (λ p. p.capacity) l.each l.left (drop l.place-index l.places) ≡ pick (λ p. p.cost) (λ p. p.capacity) l.fn.each l.fn.count l.fn.places;
  few : l.left ≤ l.fn.count;
  small : l.gained ≤ (l.fn.count - l.left) * 2 ^ 80;
}
