-- A launch that is ready.
use Rattle.std.specs.Prelude.{◌≡◌, ℕ, ◌+◌, ◌<◌, ◌≤◌, not, List, ◌++◌, filter, length}
use Rattle.tetri_base.specs.Lists.{has}
use Rattle.tetri_strl.specs.declared.grants.Grant.{Grant}
use Rattle.tetri_trace.specs.Scenario.{Scenario}
use Rattle.tetri_trace.specs.Sound.{IsSound}
use Rattle.tetri_state.specs.declared.launches.Launch.{Launch}
use Rattle.tetri_state.specs.declared.pieces.Piece.{Piece}
use Rattle.tetri_state.specs.After.{new_pieces, starting_pieces}
use Rattle.tetri_state.specs.Launch.{launched_in}
use Rattle.tetri_state.specs.Planning.{instance_of}
use Rattle.tetri_state.specs.Reached.{IsPlan, IsReached, begun}
use Rattle.tetri_state.specs.Snapshot.{Snapshot}

-- the jobs, ascending, their pieces, all grants of the plan, and room for this many pieces
pub record Readied : Type 0 where
  pub jobs : List ℕ
  pub pieces : List Piece
  pub grants : List Grant
  pub room : ℕ

-- these jobs and pieces were found as those of the grants, which may be planned in a state of the trace whose slot has begun
pub record IsFoundFor (t : Scenario) (s : Snapshot) (a : List Grant) (l : Launch) : Type 0 where
  pub sound : IsSound t
  pub reached : IsReached t begun s
  pub plan : IsPlan t s a
  pub jobs : l.jobs.items ≡ launched_in (instance_of t s) a
  pub pieces : l.pieces.items ≡ starting_pieces t (instance_of t s) a

-- it is the launch of these grants, which may be planned in the state
pub record IsLaunchOf (t : Scenario) (s : Snapshot) (a : List Grant) (r : Readied) : Type 0 where
  pub plan : IsPlan t s a
  pub jobs : r.jobs ≡ launched_in (instance_of t s) a
  pub pieces : r.pieces ≡ new_pieces t (instance_of t s) a
  pub grants : r.grants ≡ a

-- it launches jobs that are pending in the state, and has the room that this takes
pub record Fits (s : Snapshot) (r : Readied) : Type 0 where
  pub early : s.now < 20000
  pub pending : r.jobs ≡ filter (has r.jobs) s.pending
  pub room : length s.pieces + length r.pieces ≤ r.room

-- the state after the launch
abbrev pub launched_from : Snapshot → Readied → Snapshot
launched_from s r = record {
  now = s.now + 1;
  drained = s.drained;
  pending = filter (λ j. not (has r.jobs j)) s.pending;
  pieces = s.pieces ++ r.pieces;
  launched = s.launched ++ r.jobs;
  ended = s.ended;
  cancelled = s.cancelled;
  expired = s.expired;
  plan = r.grants;
}
