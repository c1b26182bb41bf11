use Rattle.std.proofs.Common.{◌≡◌, ◌++◌, drop}
use Rattle.tetri_space.specs.Spans.{ends_in}
use Rattle.tetri_space.proofs.spans.push_ends.Given as goal

abbrev pub invariant-loop-span : goal.invariant-loop-span
invariant-loop-span l = l.ends.items ++ ends_in l.node l.now l.base (drop l.span-index l.spans) ≡ l.fn.ends.items ++ ends_in l.node l.now l.base l.spans
