-- Jobs that wait until they are handled.
use Rattle.tetri_workload.specs.Marks.{AreSecondsMarked}
use Rattle.tetri_workload.specs.declared.waiting.Waiting.{Waiting}

-- the second of each job that waits is marked
abbrev pub HasSeconds : Waiting → Type 0
HasSeconds w = AreSecondsMarked w.seconds w.held.items
