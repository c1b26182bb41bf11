-- What the reading of a list of hosts answers.
use Rattle.std.specs.Prelude.{◌≡◌, Result, Err}
use Rattle.tetri_base.specs.Answers.{AnswersBy}
use Rattle.tetri_hosts.specs.declared.hosts.HostsFault.{HostsFault}
use Rattle.tetri_hosts.specs.declared.hosts.HostsFault.TheVariants.{NotHosts, TooMany, NoMemory}

-- the fault is that of the reading, unless memory ran out
abbrev pub Fails : {Y : Type 0} → HostsFault → Result Y HostsFault → Type 0
Fails NotHosts reading = reading ≡ Err NotHosts
Fails TooMany reading = reading ≡ Err TooMany
Fails NoMemory reading = Unit {0}

-- what is answered, seen by view, is what the reading gives, unless memory ran out
abbrev pub Gives : {X Y : Type 0} → (X → Y) → Result X HostsFault → Result Y HostsFault → Type 0
Gives = AnswersBy Fails
