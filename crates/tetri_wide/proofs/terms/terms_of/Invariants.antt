use Rattle.std.proofs.Common.{◌≡◌, ◌+◌, ◌≤◌, ◌++◌, drop}
use Rattle.tetri_base.specs.Lists.{sum_of}
use Rattle.tetri_wide.proofs.EntryLemmas.{terms_after}
use Rattle.tetri_wide.proofs.terms.terms_of.Given as goal

abbrev pub invariant-loop-entry : goal.invariant-loop-entry
invariant-loop-entry l = record {
  terms : l.terms.items ++ terms_after l.last (drop l.entry-index l.entries) ≡ terms_after (record { column = 0; plus = 0; minus = 0 }) l.entries;
  plus : l.last.plus + sum_of (λ e. e.plus) (drop l.entry-index l.entries) ≤ sum_of (λ e. e.plus) l.entries;
  minus : l.last.minus + sum_of (λ e. e.minus) (drop l.entry-index l.entries) ≤ sum_of (λ e. e.minus) l.entries;
}
