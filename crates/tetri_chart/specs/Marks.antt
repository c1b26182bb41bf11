-- The numbers of the cycles of a run.
use Rattle.std.specs.Prelude.{ℕ, ◌+◌, List, [], ◌∷◌, Bool, not, length, count_by, min, nat_le, if◌then◌else◌}
use Rattle.tetri_base.specs.Lists.{has}
use Rattle.tetri_cycles.specs.Observed.{next}
use Rattle.tetri_report.specs.Block.{Block}
use Rattle.tetri_space.specs.Space.{Bid, Space}
use Rattle.tetri_state.specs.Planning.{instance_at}
use Rattle.tetri_state.specs.Snapshot.{Snapshot}
use Rattle.tetri_state.specs.declared.pieces.Piece.{Piece}
use Rattle.tetri_trace.specs.Scenario.{Scenario}
use Rattle.tetri_chart.specs.Pieces.{running}
use Rattle.tetri_chart.specs.declared.picture.CycleMark.{CycleMark}

-- the job is none of those that are launched
abbrev pub is_left : List ℕ → Bid → Bool
is_left launched b = not (has launched b.job)

-- how many nodes a piece uses in a slot, once it has started
abbrev pub nodes_at : ℕ → Piece → ℕ
nodes_at now p = if nat_le p.started now then length p.nodes else 0

-- how many nodes pieces use in a slot
abbrev pub used_at : ℕ → List Piece → ℕ
used_at now [] = 0
used_at now (p ∷ ps) = nodes_at now p + used_at now ps

-- The numbers of a cycle that plans for this, behind whose launch these pieces run, on so many nodes: the value, the bound and the mark of its
-- plan, how many of its pending jobs it does not launch, and how many nodes are in use in its slot.
abbrev pub mark_in : Space → List Piece → ℕ → Block → CycleMark
mark_in i active nodes b = record {
  value = b.value;
  bound = b.bound;
  mark = b.mark;
  waiting = count_by (is_left b.launched) i.bids;
  used = min (used_at i.now active) nodes;
}

-- the numbers of a cycle that begins in this state, before whose launch these pieces run
abbrev pub mark_of : Scenario → Snapshot → List Piece → Block → CycleMark
mark_of t s active b = mark_in (instance_at t s) (running t s active b) (length t.nodes) b

-- those of the cycles that are still to come from this state on
abbrev pub marks_from : Scenario → Snapshot → List Piece → List Block → List CycleMark
marks_from t s active [] = []
marks_from t s active (b ∷ bs) = mark_of t s active b ∷ marks_from t (next t s b) (running t s active b) bs
