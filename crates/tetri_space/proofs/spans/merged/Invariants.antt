use Rattle.std.proofs.Common.{drop}
use Rattle.tetri_space.proofs.SpanLemmas.{IsMerging}
use Rattle.tetri_space.proofs.spans.merged.Given as goal

abbrev pub invariant-loop-closure : goal.invariant-loop-closure
invariant-loop-closure l = IsMerging l.fn.closures l.spans.items l.last (drop l.closure-index l.rest)
