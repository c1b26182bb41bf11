-- Stages of a report by their order.
use Rattle.std.proofs.Common.{◌≡◌, ◌<◌, ◌≤◌, Bool, true, false, refl, arith}
use Rattle.std.specs.Prelude.{◌||◌}
use Rattle.std.proofs.lemmas.Bool.Decides.{nat_tests}
use Rattle.tetri_report.specs.Reading.{is_between, is_certified, is_from_to, rank}
use Rattle.tetri_report.specs.declared.line.Stage.{Stage}
use Rattle.tetri_report.specs.declared.line.Stage.TheVariants as stages

-- a stage from one to another is in a wider range
pub wider : (first last from to stage : Stage) → rank from ≤ rank first → rank last ≤ rank to → is_from_to first last stage ≡ true → is_from_to from to stage ≡ true
wider first last from to stage below above h = grind (arith, nat_tests)

-- a stage up to one before the certificate is before it
pub before_certificate : (first last stage : Stage) → rank last < rank stages.Tree → is_from_to first last stage ≡ true → is_certified stage ≡ false
before_certificate first last stage before h = grind (arith, nat_tests)

-- where a block may end another may begin
pub certified_between : (stage : Stage) → is_certified stage ≡ true → is_between stage ≡ true
certified_between stage h = by_or (is_from_to stages.Opened stages.Opened stage) (is_certified stage) h
  where
    by_or : (x y : Bool) → y ≡ true → (x || y) ≡ true
    by_or true y e = refl
    by_or false y e = e
