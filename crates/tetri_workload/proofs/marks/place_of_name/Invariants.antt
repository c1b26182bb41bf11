use Rattle.std.proofs.Common.{◌≡◌, ◌<◌, ◌+◌, ◌*◌, ◌%◌, fold, take}
use Rattle.tetri_workload.proofs.marks.place_of_name.Given as goal

abbrev pub invariant-loop-b : goal.invariant-loop-b
invariant-loop-b l = record { small : l.place < 1048576; same : l.place ≡ fold (λ place b. (place * 31 + b) % 1048576) 0 (take l.b-index l.name) }
