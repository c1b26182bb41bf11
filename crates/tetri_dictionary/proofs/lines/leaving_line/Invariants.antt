use Rattle.std.proofs.Common.{◌≡◌, ◌<◌, length, drop, None, IfSome}
use Rattle.tetri_dictionary.specs.Choices.{leaving_from}
use Rattle.tetri_dictionary.specs.Sparse.{lines_of}
use Rattle.tetri_dictionary.proofs.lines.leaving_line.Given as goal

abbrev pub invariant-loop-k : goal.invariant-loop-k
invariant-loop-k l = record {
  found : leaving_from l.basic l.k (drop l.k l.basic) (drop l.k (lines_of l.columns l.lines)) l.best ≡ leaving_from l.basic 0 l.basic (lines_of l.columns l.lines) None;
  within : IfSome l.best (λ b. b < length l.basic);
}
