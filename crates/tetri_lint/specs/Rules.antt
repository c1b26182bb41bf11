-- What is suspicious in an ask or a leaf.
use Rattle.std.specs.Prelude.{ℕ, ◌/◌, ◌==◌, ◌&&◌, Bool, nat_lt, if◌then◌else◌, List, [], length, slice_index_or, Option, Some, None}
use Rattle.tetri_request.specs.declared.ask.Ask.{Ask}
use Rattle.tetri_request.specs.declared.ask.Class.{Class}
use Rattle.tetri_request.specs.declared.ask.Class.TheVariants.{Steady, Decay}
use Rattle.tetri_request.specs.declared.ask.Prefer.{Prefer}

-- the set has fewer nodes
abbrev pub is_more_than_set : List (List ℕ) → ℕ → ℕ → Bool
is_more_than_set sets set k = nat_lt (length (slice_index_or sets set [])) k

-- a run on the preferred set that is longer than the deadline
abbrev pub preferred_past : ℕ → Option Prefer → Option ℕ
preferred_past deadline None = None
preferred_past deadline (Some p) = if nat_lt deadline p.dur then Some p.dur else None

-- a run that is longer than the deadline, on the ask's own set or else on the preferred one
abbrev pub past_deadline : Ask → Option ℕ
past_deadline a = if nat_lt a.deadline a.dur then Some a.dur else preferred_past a.deadline a.prefer

-- the share of a value that is left in the last slot before the deadline
abbrev pub last_share : Class → ℕ → ℕ → ℕ
last_share Steady value deadline = value
last_share Decay value deadline = value / deadline

abbrev pub end_worth : Ask → ℕ
end_worth a = last_share a.class a.value a.deadline

-- the ask is worth something, and what is left of it, or of each node's share, rounds to 0 at its deadline
abbrev pub rounds_to_zero : Ask → Bool
rounds_to_zero a = nat_lt 0 a.value && ((if a.elastic then end_worth a / a.k else end_worth a) == 0)
