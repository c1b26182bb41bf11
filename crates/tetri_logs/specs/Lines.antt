-- The lines of a log.
use Rattle.std.specs.Prelude.{ℕ, ◌-◌, ◌==◌, Bool, List, [], ◌∷◌, length, take, slice_index_or, if◌then◌else◌}
use Rattle.tetri_io.specs.Words.{parts_at}

-- whether the last part has no byte
abbrev pub ends_empty : List (List ℕ) → Bool
ends_empty parts = length (slice_index_or parts (length parts - 1) (0 ∷ [])) == 0

-- what stands between line feeds, but nothing behind the last one
abbrev pub log_lines : List ℕ → List (List ℕ)
log_lines log = let parts = parts_at 10 log in if ends_empty parts then take (length parts - 1) parts else parts
