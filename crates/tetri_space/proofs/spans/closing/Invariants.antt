use Rattle.std.proofs.Common.{◌≡◌, ℕ, ◌^◌, ◌<◌, ◌++◌, drop}
use Rattle.tetri_base.specs.Lists.{Each}
use Rattle.tetri_space.specs.Closed.{is_closed_by}
use Rattle.tetri_space.proofs.SpanLemmas.{IsSome}
use Rattle.tetri_space.proofs.spans.closing.Given as goal

abbrev pub invariant-loop-closure : goal.invariant-loop-closure
invariant-loop-closure l = record {
  same : (n t : ℕ) → is_closed_by (l.closures.items ++ drop l.closure-index l.given) n t ≡ is_closed_by l.given n t;
  some : Each IsSome l.closures.items;
  fit : Each (λ c. c.from < 2 ^ 32) l.closures.items;
}
