-- What the steps of reading answer.
use Rattle.std.specs.Prelude.{ℕ, ◌≡◌, ◌-◌, List, length, Result, Err}
use Rattle.tetri_base.specs.Answers.{AnswersBy}
use Rattle.tetri_parse.specs.declared.fault.Fault.{Fault}
use Rattle.tetri_parse.specs.declared.fault.Miss.{Miss}
use Rattle.tetri_parse.specs.declared.fault.Stop.{Stop}
use Rattle.tetri_parse.specs.declared.fault.Stop.TheVariants as stops
use Rattle.tetri_parse.specs.declared.fault.ParseFault.{ParseFault}
use Rattle.tetri_parse.specs.declared.fault.ParseFault.TheVariants as faults

-- where reading stopped it was missed, unless memory ran out
abbrev pub Stops : {Y : Type 0} → Stop → Result Y Miss → Type 0
Stops (stops.Missed miss) reading = reading ≡ Err miss
Stops stops.NoMemory reading = Unit {0}

-- what a step returned, seen by view, is what reading gives, unless memory ran out
abbrev pub Gives : {X Y : Type 0} → (X → Y) → Result X Stop → Result Y Miss → Type 0
Gives = AnswersBy Stops

-- the same of a whole text, whose first fault has an offset
abbrev pub Refuses : {Y : Type 0} → ParseFault → Result Y (ℕ × Fault) → Type 0
Refuses (faults.At offset fault) reading = reading ≡ Err (offset, fault)
Refuses faults.NoMemory reading = Unit {0}

abbrev pub Answers : {X Y : Type 0} → (X → Y) → Result X ParseFault → Result Y (ℕ × Fault) → Type 0
Answers = AnswersBy Refuses

-- what is answered where reading a text stopped
abbrev pub fault_in : List ℕ → Stop → ParseFault
fault_in text (stops.Missed miss) = faults.At (length text - miss.left) miss.fault
fault_in text stops.NoMemory = faults.NoMemory
