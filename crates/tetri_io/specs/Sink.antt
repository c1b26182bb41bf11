-- What a write leaves that failed.
use Rattle.std.specs.Prelude.{ℕ, ◌<◌, ◌≡◌, List, Option, length, take}
use Rattle.std.specs.Io.KnownBytes.{append_known}

-- Known bytes grew by a proper front of bs.
abbrev pub AppendsPart : Option (List ℕ) → Option (List ℕ) → List ℕ → Type 0
AppendsPart old new bs = (n : ℕ) × (n < length bs) × (new ≡ append_known old (take n bs))
