-- The state of the cycles as plain data.
use Rattle.std.specs.Prelude.{ℕ, ◌<◌, List, [], Bool, false, length, replicate, unwrap_or}
use Rattle.tetri_strl.specs.Tree.{Tree, added, join, none}
use Rattle.tetri_strl.specs.declared.grants.Grant.{Grant}
use Rattle.tetri_request.specs.Options.{offer}
use Rattle.tetri_state.specs.declared.pieces.Piece.{Piece}
use Rattle.tetri_trace.specs.Scenario.{Demand, Scenario, strl, asks, submission_of}

-- The slot, by node whether it is drained, the pending jobs, the running pieces in order of launch, the jobs that were
-- launched, that ended, that were cancelled and that expired, each in the order in which that happened, and the grants of
-- the last plan. A job ended where the last of its pieces ended.
pub record Snapshot : Type 0 where
  pub now : ℕ
  pub drained : List Bool
  pub pending : List ℕ
  pub pieces : List Piece
  pub launched : List ℕ
  pub ended : List ℕ
  pub cancelled : List ℕ
  pub expired : List ℕ
  pub plan : List Grant

-- as a run opens
abbrev pub opening_state : Scenario → Snapshot
opening_state t = record {
  now = 0;
  drained = replicate (length t.nodes) false;
  pending = [];
  pieces = [];
  launched = [];
  ended = [];
  cancelled = [];
  expired = [];
  plan = [];
}

-- an expression of no leaf
abbrev pub no_leaves : Tree
no_leaves = join added none

-- a job of the trace that arrived before this slot
abbrev pub ArrivedBefore : Scenario → ℕ → ℕ → Type 0
ArrivedBefore t slot job = (job < length t.submissions) × ((submission_of t job).arrival < slot)

-- What is offered in a slot for this demand, which arrived then: an expression as it is, and of an ask what it offers
-- anew in each slot. An ask that has not expired has an offer.
abbrev pub offered_for : Demand → ℕ → ℕ → ℕ → Tree
offered_for (strl e) arrival now window = e
offered_for (asks a) arrival now window = unwrap_or (offer a arrival now window) no_leaves

-- what a job offers in a slot
abbrev pub offered : Scenario → ℕ → ℕ → Tree
offered t now job = offered_for (submission_of t job).demand (submission_of t job).arrival now t.header.window
