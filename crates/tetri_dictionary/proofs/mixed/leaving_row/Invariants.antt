use Rattle.std.proofs.Common.{◌≡◌, ◌<◌, List, length, drop, None, IfSome}
use Rattle.tetri_algebra.specs.Rational.{ℚ}
use Rattle.tetri_dictionary.specs.Below.{below_of}
use Rattle.tetri_dictionary.specs.Choices.{leaving_from}
use Rattle.tetri_dictionary.proofs.mixed.leaving_row.Given as goal

abbrev pub invariant-loop-k : goal.invariant-loop-k
invariant-loop-k l = record {
  found : (rows : List (List ℚ)) → l.below ≡ below_of rows → leaving_from l.basic l.k (drop l.k l.basic) (drop l.k rows) l.best ≡ leaving_from l.basic 0 l.basic rows None;
  within : IfSome l.best (λ b. b < length l.basic);
}
