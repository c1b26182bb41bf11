use Rattle.std.proofs.Common.{◌≡◌, ◌≤◌, ◌^◌, ◌++◌, All, map, drop}
use Rattle.tetri_space.specs.Space.{space}
use Rattle.tetri_prices.specs.Prices.{rows_of}
use Rattle.tetri_prices.specs.steps.Places.{place_for}
use Rattle.tetri_prices.proofs.leaves.places_of.Given as goal

abbrev pub invariant-loop-part : goal.invariant-loop-part
invariant-loop-part l = record {
  so_far : l.places.items ++ map (place_for (space l.fn.inst) (rows_of l.fn.prices) l.fn.leaf) (drop l.part-index l.part-items)
      ≡ map (place_for (space l.fn.inst) (rows_of l.fn.prices) l.fn.leaf) l.part-items;
  small : All (λ p. p.cost ≤ 2 ^ 70) l.places.items;
}
