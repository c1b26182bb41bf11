use Rattle.std.proofs.Common.{◌≡◌, ◌-◌, ◌++◌, map}
use Rattle.std.specs.List.{range_with_len}
use Rattle.std.specs.Prelude.{pos}
use Rattle.tetri_compile.specs.Flat.{coefficient}
use Rattle.tetri_wide.specs.Sketch.{form_of}
use Rattle.tetri_wide.proofs.flattening.costs_from.Given as goal

abbrev pub invariant-loop-column : goal.invariant-loop-column
invariant-loop-column l = l.costs.items ++ map (λ j. pos (coefficient (form_of l.form) j)) (range_with_len l.column (l.count - l.column)) ≡ map (λ j. pos (coefficient (form_of l.form) j)) (range_with_len 0 l.count)
