use Rattle.std.proofs.Common.{◌≡◌, ◌++◌, drop, map}
use Rattle.tetri_compile.specs.steps.Entries.{on_left, on_right}
use Rattle.tetri_compile.proofs.terms.entries_in.Given as goal

abbrev pub invariant-loop-share : goal.invariant-loop-share
invariant-loop-share l = l.entries.items ++ map on_right (drop l.share-index l.under) ≡ map on_left l.most ++ map on_right l.under
