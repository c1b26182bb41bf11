use Rattle.std.proofs.Common.{◌≡◌, ◌++◌, drop, map}
use Rattle.std.specs.Prelude.{All}
use lib.IntN.{◌*ℤ◌}
use Rattle.tetri_rows.specs.Small.{IsShort}
use Rattle.tetri_dictionary.specs.Start.{objective_row, direction}
use Rattle.tetri_dictionary.proofs.first_rows.short_objective.Given as goal

abbrev pub invariant-loop-j : goal.invariant-loop-j
invariant-loop-j l = record {
  formed : l.numbers.items ++ map (λ c. c *ℤ direction c) (drop l.j l.p.costs.items) ≡ objective_row l.p.costs.items l.start;
  short : All IsShort l.numbers.items;
}
