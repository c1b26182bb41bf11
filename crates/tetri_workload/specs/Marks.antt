-- Marks of names and of seconds.
use Rattle.std.specs.Prelude.{◌≡◌, ◌==◌, ℕ, ◌+◌, ◌-◌, ◌*◌, ◌/◌, ◌%◌, ◌^◌, Bool, true, List, All, fold, slice_index_or}
use Rattle.std.specs.Int.{bit_at}
use Rattle.tetri_logs.specs.declared.entry.LoggedJob.{LoggedJob}
use Rattle.tetri_workload.specs.declared.marks.Marks.{Marks}

-- where the mark of a name stands, which other names may share
abbrev pub place_of_name : List ℕ → ℕ
place_of_name name = fold (λ place b. (place * 31 + b) % 1048576) 0 name

-- where the mark of a second stands, which other seconds may share
abbrev pub place_of_second : ℕ → ℕ
place_of_second second = second % 1048576

-- whether a place is marked: each has a bit of a word, and each bit of a word past the last is 1
unfoldable pub is_marked : Marks → ℕ → Bool
is_marked m place = bit_at (slice_index_or m.marks.items (place / 64) (2 ^ 64 - 1)) (place % 64) == 1

-- each of these names is marked
abbrev pub AreMarked : Marks → List (List ℕ) → Type 0
AreMarked m names = All (λ name. is_marked m (place_of_name name) ≡ true) names

-- the second in which each of these jobs was submitted is marked
abbrev pub AreSecondsMarked : Marks → List LoggedJob → Type 0
AreSecondsMarked m jobs = All (λ j. is_marked m (place_of_second j.account.submit) ≡ true) jobs
