-- What the steps of reading answer.
use Rattle.std.specs.Prelude.{◌≡◌, Result, Err}
use Rattle.tetri_base.specs.Answers.{AnswersBy}
use Rattle.tetri_notice.specs.declared.fault.TraceWhy.{TraceWhy}
use Rattle.tetri_notice.specs.declared.fault.Stop.{Stop}
use Rattle.tetri_notice.specs.declared.fault.Stop.TheVariants as stops

-- What a step stopped for is what reading gives, unless memory ran out.
abbrev pub Stops : {Y : Type 0} → Stop → Result Y TraceWhy → Type 0
Stops (stops.Because why) reading = reading ≡ Err why
Stops stops.NoMemory reading = Unit {0}

-- What a step returned, seen by view, is what reading gives, unless memory ran out.
abbrev pub Gives : {X Y : Type 0} → (X → Y) → Result X Stop → Result Y TraceWhy → Type 0
Gives = AnswersBy Stops
