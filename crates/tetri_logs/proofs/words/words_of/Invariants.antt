use Rattle.std.proofs.Common.{◌≡◌, ◌≤◌, ◌++◌, drop, map}
use Rattle.std.specs.Prelude.{length, ◌==◌, not, filter}
use Rattle.std.specs.List.{slice_range}
use Rattle.tetri_logs.specs.Words.{is_separator, words_of}
use Rattle.tetri_logs.proofs.WordLemmas.{parts_from}
use Rattle.tetri_logs.proofs.words.words_of.Given as goal

abbrev pub invariant-loop-i : goal.invariant-loop-i
invariant-loop-i l = record {
  order : l.from ≤ l.i;
  same : map (λ x. x.now) l.words.items ++ filter (λ word. not (length word == 0)) (parts_from is_separator (slice_range l.line l.from l.i) (drop l.i l.line)) ≡ words_of l.line;
}
