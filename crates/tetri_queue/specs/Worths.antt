-- What a job is worth.
use Rattle.std.specs.Prelude.{ℕ, ◌+◌, ◌-◌, ◌*◌, ◌/◌, max, min, Option, Some, None}
use Rattle.tetri_queue.specs.declared.asked.Asked.{Asked}
use Rattle.tetri_queue.specs.declared.asked.QueueWorth.{QueueWorth}
use Rattle.tetri_queue.specs.declared.asked.QueueWorth.TheVariants.{NodeSlots, Priority}

-- before it has waited: its nodes times its slots, or its priority, 1 at least
abbrev pub worth_of : QueueWorth → ℕ → ℕ → ℕ → ℕ
worth_of NodeSlots nodes slots priority = nodes * slots
worth_of Priority nodes slots priority = max priority 1

-- for how many whole slots of so many seconds it has waited, where it is known when slot 0 begins and when the job was submitted
abbrev pub waited_of : ℕ → Option ℕ → Option ℕ → ℕ
waited_of slot (Some now) (Some submitted) = (now - submitted) / max slot 1
waited_of slot (Some now) None = 0
waited_of slot None submitted = 0

abbrev pub aged : Option ℕ → ℕ → ℕ → ℕ
aged (Some slots) waited worth = worth * (max slots 1 + waited) / max slots 1
aged None waited worth = worth

-- the worth times 1 + waited / ageing, rounded down, and 1,000,000,000,000 at most
abbrev pub aged_worth : Option ℕ → ℕ → ℕ → ℕ
aged_worth ageing waited worth = min (aged ageing waited worth) 1000000000000

-- what a job of so many nodes and slots, with this priority, is worth that was submitted then
abbrev pub value_of : Asked → ℕ → ℕ → ℕ → Option ℕ → ℕ
value_of a nodes slots priority submitted = aged_worth a.ageing (waited_of a.slot a.now submitted) (worth_of a.worth nodes slots priority)
