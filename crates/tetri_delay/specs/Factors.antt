-- By how much worths are multiplied before a delay is charged.
use Rattle.std.specs.Prelude.{◌+◌, ◌*◌, ◌-◌, ◌/◌, ℕ, List, Option, Some, None, if◌then◌else◌, max, min, nat_le, slice_index_or}
use Rattle.tetri_strl.specs.WellMade.{PEAK}

-- the greatest power of two up to 64 that is at most this number, and 1 for 0
abbrev pub power_within : ℕ → ℕ
power_within n =
    if nat_le 64 n then 64
    else if nat_le 32 n then 32
    else if nat_le 16 n then 16
    else if nat_le 8 n then 8
    else if nat_le 4 n then 4
    else if nat_le 2 n then 2
    else 1

-- the greatest power of two up to 64 that takes no worth past the limit, where this is the greatest worth
abbrev pub grain : ℕ → ℕ
grain most = power_within (PEAK / max most 1)

-- for how many slots a job has waited, by the slot in which it was first seen
abbrev pub waited : List ℕ → ℕ → ℕ → ℕ
waited first now job = now - slice_index_or first job now

-- with ageing, as much again for each so many slots
abbrev pub aged : ℕ → Option ℕ → ℕ → ℕ
aged grain (Some slots) waited = grain * (max slots 1 + waited) / max slots 1
aged grain None waited = grain

-- by how much the worths of a job are multiplied, of which this is the greatest
abbrev pub times : ℕ → Option ℕ → ℕ → ℕ → ℕ
times grain ageing waited peak = min (aged grain ageing waited) (PEAK / max peak 1)
