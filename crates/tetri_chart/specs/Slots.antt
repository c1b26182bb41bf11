-- The slots of a run that a picture shows.
use Rattle.std.specs.Prelude.{◌≡◌, ℕ, ◌+◌, List, [], ◌∷◌, max, min, Bool, true, ◌&&◌, nat_le, nat_lt, Option, Some, None, unwrap_or}
use Rattle.tetri_trace.specs.Scenario.{Scenario}
use Rattle.tetri_chart.specs.Picture.{Picture}
use Rattle.tetri_chart.specs.declared.picture.Span.{Span}
use Rattle.tetri_chart.specs.declared.picture.Wait.{Wait}
use Rattle.tetri_chart.specs.declared.view.View.{View}

-- the run has this slot, where one is named
abbrev pub is_within : ℕ → Option ℕ → Bool
is_within slots None = true
is_within slots (Some slot) = nat_lt slot slots

-- the first slot that is shown
abbrev pub first_of : View → ℕ
first_of v = unwrap_or v.from 0

-- the last slot that is named is not before the first, where one is named
abbrev pub is_ordered : ℕ → Option ℕ → Bool
is_ordered first None = true
is_ordered first (Some to) = nat_le first to

-- the run has the cycle and the slots that are asked for
abbrev pub has_slots : Scenario → Option ℕ → View → Bool
has_slots t asked v =
    is_within t.header.until asked && (is_within t.header.until v.from && (is_within t.header.until v.to && is_ordered (first_of v) v.to))

abbrev pub HasSlots : Scenario → Option ℕ → View → Type 0
HasSlots t asked v = has_slots t asked v ≡ true

-- the first slot in which no piece runs any more
abbrev pub last_end : List Span → ℕ
last_end [] = 0
last_end (x ∷ xs) = max x.until (last_end xs)

-- the first slot for which no waiting grant is planned any more
abbrev pub last_wait : List Wait → ℕ
last_wait [] = 0
last_wait (w ∷ ws) = max w.until (last_wait ws)

-- the first slot behind the cycle that is asked for and what it planned, if one is
abbrev pub asked_end : Option ℕ → List Wait → ℕ
asked_end None waits = 0
asked_end (Some cycle) waits = max (cycle + 1) (last_wait waits)

-- the first slot behind the last one that is named, or else behind those in which a piece runs or a waiting grant stands
abbrev pub wanted_end : Option ℕ → Picture → ℕ
wanted_end None p = max (last_end p.spans) (asked_end p.asked p.waits)
wanted_end (Some to) p = to + 1

-- The first slot behind those that are shown: the same, at least one slot is shown, and none behind a window behind the run.
abbrev pub end_of : Scenario → View → Picture → ℕ
end_of t v p = min (max (wanted_end v.to p) (first_of v + 1)) (t.header.until + t.header.window)
