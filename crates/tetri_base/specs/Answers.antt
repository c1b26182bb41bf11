-- What a step returns, held against a reading.
use Rattle.std.specs.Prelude.{◌≡◌, Result, Ok, Err}

-- What it returned, seen by view, is what the reading gives, and an error is as its cause says.
abbrev pub AnswersBy : {X Y E F : Type 0} → (E → Result Y F → Type 0) → (X → Y) → Result X E → Result Y F → Type 0
AnswersBy caused view (Ok x) reading = reading ≡ Ok (view x)
AnswersBy caused view (Err e) reading = caused e reading
