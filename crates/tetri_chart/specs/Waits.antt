-- The grants of a cycle that wait for a later slot.
use Rattle.std.specs.Prelude.{ℕ, ◌+◌, ◌==◌, List, [], ◌∷◌, ◌++◌, Bool, false, if◌then◌else◌, min, nat_lt, Option, Some, None}
use Rattle.std.specs.List.{filter_map}
use Rattle.tetri_report.specs.Block.{Block}
use Rattle.tetri_space.specs.Space.{Space, leaf_in}
use Rattle.tetri_state.specs.Begin.{begin}
use Rattle.tetri_state.specs.Planning.{instance_of}
use Rattle.tetri_state.specs.Snapshot.{Snapshot}
use Rattle.tetri_strl.specs.declared.expr.Leaf.{Leaf}
use Rattle.tetri_strl.specs.declared.grants.Grant.{Grant}
use Rattle.tetri_trace.specs.Scenario.{Scenario}
use Rattle.tetri_cycles.specs.Observed.{next}
use Rattle.tetri_chart.specs.declared.picture.Wait.{Wait}

-- a grant of a leaf that starts behind this slot
abbrev pub wait_by : ℕ → Grant → Option Leaf → Option Wait
wait_by now g None = None
wait_by now g (Some l) =
    if nat_lt now l.start then Some (record { job = g.job; nodes = g.nodes; from = l.start; until = min (l.start + l.dur) 4294967295 }) else None

abbrev pub waits_in : Space → List Grant → List Wait
waits_in i a = filter_map (λ g. wait_by i.now g (leaf_in i.bids g.job g.leaf)) a

-- the slot is the one that is asked for
abbrev pub is_asked : Option ℕ → ℕ → Bool
is_asked None now = false
is_asked (Some asked) now = asked == now

abbrev pub waits_of : Scenario → Option ℕ → Snapshot → Block → List Wait
waits_of t asked s b = if is_asked asked s.now then waits_in (instance_of t (begin t s)) b.grants else []

-- the waiting grants of the cycle that is asked for, of the cycles that are still to come from this state on
abbrev pub waits_from : Scenario → Option ℕ → Snapshot → List Block → List Wait
waits_from t asked s [] = []
waits_from t asked s (b ∷ bs) = waits_of t asked s b ++ waits_from t asked (next t s b) bs
