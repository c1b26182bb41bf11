use Rattle.std.proofs.Common.{◌≡◌, ◌++◌, drop, map}
use Rattle.tetri_compile.specs.Flat.{count_of}
use Rattle.tetri_compile.proofs.flattening.counts_from.Given as goal

abbrev pub invariant-loop-tally : goal.invariant-loop-tally
invariant-loop-tally l = l.counts.items ++ map count_of (drop l.tally-index l.tallies) ≡ map count_of l.tallies
