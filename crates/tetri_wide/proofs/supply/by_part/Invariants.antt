use Rattle.std.proofs.Common.{◌≡◌, ◌<◌, ◌==◌, ◌++◌, ℕ, length, drop}
use Rattle.std.specs.List.{filter}
use Rattle.tetri_base.specs.Lists.{list_at}
use Rattle.tetri_wide.proofs.supply.by_part.Given as goal

abbrev pub invariant-loop-holding : goal.invariant-loop-holding
invariant-loop-holding l = record {
  count : length l.lists.items ≡ l.count;
  parts : (p : ℕ) → p < l.count → list_at l.lists.items p ++ filter (λ c. c.part == p) (drop l.holding-index l.holdings) ≡ filter (λ c. c.part == p) l.holdings;
}
