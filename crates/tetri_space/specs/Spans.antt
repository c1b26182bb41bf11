-- What an index of closures keeps: for each node the spans of slots in which it is closed.
use Rattle.std.specs.Prelude.{◌≡◌, ◌⊎◌, ℕ, ◌+◌, ◌*◌, ◌^◌, ◌<◌, ◌≤◌, ◌==◌, ◌&&◌, ◌||◌, Bool, nat_lt, max, List, [], ◌∷◌, All, AllPairs, if◌then◌else◌}
use Rattle.tetri_space.specs.Closed.{is_closed_by}
use Rattle.tetri_space.specs.declared.closure.Closure.{Closure}

-- a span of a lesser node, or of the same node with a slot between them
abbrev pub StandsBefore : Closure → Closure → Type 0
StandsBefore c d = (c.node < d.node) ⊎ ((c.node ≡ d.node) × (c.to + 1 < d.from))

-- The spans ascend by node and slot, and those of a node neither overlap nor touch.
pub record AreSpans (spans : List Closure) : Type 0 where
  pub some_slots : All (λ c. c.from ≤ c.to) spans
  pub ordered : AllPairs StandsBefore spans

-- they close exactly what the closures do
pub record AreSpansOf (cs spans : List Closure) : Type 0 where
  pub are_spans : AreSpans spans
  pub same : (n t : ℕ) → is_closed_by spans n t ≡ is_closed_by cs n t

-- where a closure stands among others
abbrev pub place_of : Closure → ℕ
place_of c = c.node * 2 ^ 32 + c.from

-- the span is of a lesser node, or of this one and over before the slot
abbrev pub is_past : ℕ → ℕ → Closure → Bool
is_past n t c = nat_lt c.node n || (c.node == n && nat_lt c.to t)

-- The slots from `now` on in which the first spans, as far as they are of this node, begin, and
-- those behind their ends, each `base` higher.
abbrev pub ends_in : ℕ → ℕ → ℕ → List Closure → List ℕ
ends_in n now base [] = []
ends_in n now base (c ∷ cs) = if c.node == n
    then (base + max now c.from) ∷ (base + (c.to + 1)) ∷ ends_in n now base cs else []
