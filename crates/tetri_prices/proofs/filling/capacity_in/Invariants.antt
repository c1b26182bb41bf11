use Rattle.std.proofs.Common.{◌≡◌, ◌≤◌, ◌+◌, ◌*◌, ◌^◌, drop}
use Rattle.tetri_base.specs.Lists.{sum_of}
use Rattle.tetri_prices.proofs.filling.capacity_in.Given as goal

abbrev pub invariant-loop-place : goal.invariant-loop-place
invariant-loop-place l = record {
  so_far : l.sum + sum_of (λ p. p.capacity) (drop l.place-index l.places) ≡ sum_of (λ p. p.capacity) l.fn.places;
  small : l.sum ≤ l.place-index * 2 ^ 64;
}
