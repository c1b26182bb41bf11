use Rattle.std.proofs.Common.{◌≡◌, ◌++◌, drop, map}
use Rattle.std.specs.Prelude.{pos}
use Rattle.tetri_wide.proofs.flattening.bounds_from.Given as goal

abbrev pub invariant-loop-upper : goal.invariant-loop-upper
invariant-loop-upper l = l.bounds.items ++ map pos (drop l.upper-index l.uppers) ≡ map pos l.uppers
