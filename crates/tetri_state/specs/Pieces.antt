-- How running pieces stand to each other, and to those of the next slot.
use Rattle.std.specs.Prelude.{◌≡◌, ◌⊎◌, ℕ, Contains}
use Rattle.tetri_trace.specs.Scenario.{Scenario}
use Rattle.tetri_state.specs.declared.pieces.Piece.{Piece}
use Rattle.tetri_state.specs.Begin.{begin, named, occurring}
use Rattle.tetri_state.specs.Snapshot.{Snapshot}

-- no node is in both pieces
abbrev pub ShareNoNode : Piece → Piece → Type 0
ShareNoNode p q = (n : ℕ) → Contains p.nodes n → Contains q.nodes n → ⊥

-- the same run of the same leaf on the same nodes, perhaps expected to end later
pub record IsSameRun (p q : Piece) : Type 0 where
  pub job : q.job ≡ p.job
  pub leaf : q.leaf ≡ p.leaf
  pub nodes : q.nodes ≡ p.nodes
  pub started : q.started ≡ p.started
  pub real : q.real ≡ p.real

-- once the slot has begun, the piece still runs, or it is told that it ended, that its job was cancelled, or that its job
-- failed
abbrev pub RunsOnUnlessTold : Scenario → Snapshot → Piece → Type 0
RunsOnUnlessTold t s p =
    ((q : Piece) × Contains (begin t s).pieces q × IsSameRun p q)
    ⊎ (Contains (occurring t s).ended (named p) ⊎ (Contains (occurring t s).cancelled p.job ⊎ Contains (occurring t s).failed p.job))
