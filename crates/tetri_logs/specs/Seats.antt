-- Sets that lines asked for.
use Rattle.std.specs.Prelude.{◌≡◌, List, All}
use Rattle.tetri_logs.specs.SetText.{seat_of}
use Rattle.tetri_logs.specs.declared.seats.Known.{Known}

-- each is what its partitions and constraints say
abbrev pub AreKnown : List Known → Type 0
AreKnown all = All (λ k. k.seat ≡ seat_of k.partitions.now k.constraints.now) all
