-- The end of a cycle: what its plan launches runs from now on.
use Rattle.std.specs.Prelude.{ℕ, ℤ, pos, negsuc, ◌+◌, ◌-◌, ◌==◌, max, not, List, ◌++◌, filter, option_map}
use Rattle.std.specs.List.{filter_map}
use Rattle.tetri_strl.specs.declared.expr.Leaf.{Leaf}
use Rattle.tetri_strl.specs.declared.grants.Grant.{Grant}
use Rattle.tetri_space.specs.Space.{Space, leaf_in}
use Rattle.tetri_trace.specs.Scenario.{Scenario, submission_of}
use Rattle.tetri_state.specs.declared.pieces.Piece.{Piece}
use Rattle.tetri_state.specs.Launch.{start_of, starts_now, launched_in}
use Rattle.tetri_state.specs.Planning.{instance_of}
use Rattle.tetri_state.specs.Snapshot.{Snapshot}

-- how many slots a piece really runs that is expected to run `dur` and is this late: at least one
abbrev pub real_dur : ℕ → ℤ → ℕ
real_dur dur (pos late) = max 1 (dur + late)
real_dur dur (negsuc early) = max 1 (dur - (early + 1))

-- the piece that a grant of a leaf becomes
abbrev pub piece_of : Scenario → Grant → Leaf → Piece
piece_of t g l = record {
  job = g.job;
  leaf = g.leaf;
  nodes = g.nodes;
  started = l.start;
  expected = l.start + l.dur;
  real = l.start + real_dur l.dur (submission_of t g.job).late;
}

-- these grants as pieces, but for those that name no leaf
abbrev pub pieces_of : Scenario → Space → List Grant → List Piece
pieces_of t i a = filter_map (λ g. option_map (piece_of t g) (leaf_in i.bids g.job g.leaf)) a

-- the grants that start now, as pieces
abbrev pub starting_pieces : Scenario → Space → List Grant → List Piece
starting_pieces t i a = pieces_of t i (filter (λ g. start_of i g == i.now) a)

-- all grants of the jobs that have one which starts now, as pieces
abbrev pub new_pieces : Scenario → Space → List Grant → List Piece
new_pieces t i a = pieces_of t i (filter (λ g. starts_now i a g.job) a)

-- the state after its slot, in which these grants were planned
abbrev pub after : Scenario → Snapshot → List Grant → Snapshot
after t s a = record {
  now = s.now + 1;
  drained = s.drained;
  pending = filter (λ j. not (starts_now (instance_of t s) a j)) s.pending;
  pieces = s.pieces ++ new_pieces t (instance_of t s) a;
  launched = s.launched ++ launched_in (instance_of t s) a;
  ended = s.ended;
  cancelled = s.cancelled;
  expired = s.expired;
  plan = a;
}
