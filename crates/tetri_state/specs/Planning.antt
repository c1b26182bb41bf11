-- What a cycle plans for, and what it carries over.
use Rattle.std.specs.Prelude.{◌≡◌, ℕ, ◌+◌, ◌⊎◌, Bool, false, List, [], ◌∷◌, slice_set, map, filter, find, length, Option, Some, None}
use Rattle.std.specs.List.{range_with_len}
use Rattle.tetri_base.specs.Lists.{has}
use Rattle.tetri_strl.specs.declared.expr.Leaf.{Leaf}
use Rattle.tetri_strl.specs.declared.grants.Grant.{Grant}
use Rattle.tetri_strl.specs.Prune.{starts_in}
use Rattle.tetri_space.specs.Space.{Bid, Space, leaf_in}
use Rattle.tetri_space.specs.Lawful.{IsLawful}
use Rattle.tetri_trace.specs.Scenario.{Scenario}
use Rattle.tetri_state.specs.declared.pieces.Piece.{Piece}
use Rattle.tetri_state.specs.Begin.{begin}
use Rattle.tetri_state.specs.Snapshot.{Snapshot, offered}

abbrev pub expected_or : ℕ → Option Piece → ℕ
expected_or now None = now
expected_or now (Some p) = p.expected

-- the slot in which the piece on a node is expected to have ended, or now
abbrev pub busy_until : ℕ → List Piece → ℕ → ℕ
busy_until now pieces node = expected_or now (find (λ p. has p.nodes node) pieces)

-- a row with this at each of the places
abbrev pub marked : {X : Type 0} → X → List X → List ℕ → List X
marked x row [] = row
marked x row (n ∷ ns) = marked x (slice_set row n x) ns

-- what a job offers in a slot
abbrev pub bid_of : Scenario → ℕ → ℕ → Bid
bid_of t now job = record { job = job; expr = offered t now job }

-- the instance of a slot that has begun
abbrev pub instance_of : Scenario → Snapshot → Space
instance_of t s = record {
  now = s.now;
  window = t.header.window;
  nodes = length t.nodes;
  sets = t.sets;
  busy_until = map (busy_until s.now s.pieces) (range_with_len 0 (length t.nodes));
  drained = s.drained;
  closures = t.closures;
  bids = map (bid_of t s.now) s.pending;
}

-- what the cycle plans for that begins in this state
abbrev pub instance_at : Scenario → Snapshot → Space
instance_at t s = instance_of t (begin t s)

-- the leaf is there, and starts in the window
abbrev pub is_live : Space → Option Leaf → Bool
is_live i None = false
is_live i (Some l) = starts_in i.now (i.now + i.window) l

-- the grants that name a job of the instance and a live leaf of its offer
abbrev pub still_pending : Space → List Grant → List Grant
still_pending i a = filter (λ g. is_live i (leaf_in i.bids g.job g.leaf)) a

-- what is carried over of a plan: its grants of live leaves of jobs that are pending, where these are lawful together, and
-- else none
abbrev pub IsCarry : Space → List Grant → List Grant → Type 0
IsCarry i plan c =
    (IsLawful i (still_pending i plan) × (c ≡ still_pending i plan)) ⊎ ((IsLawful i (still_pending i plan) → ⊥) × (c ≡ []))
