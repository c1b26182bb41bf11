-- What becomes of the pieces of a run.
use Rattle.std.specs.Prelude.{ℕ, List, [], ◌∷◌, ◌++◌, Bool, true, false, not, if◌then◌else◌, map, filter}
use Rattle.tetri_base.specs.Lists.{has}
use Rattle.tetri_report.specs.Block.{Block}
use Rattle.tetri_cycles.specs.Observed.{next}
use Rattle.tetri_state.specs.After.{new_pieces}
use Rattle.tetri_state.specs.Begin.{Occurrences, begin, has_ended, occurring}
use Rattle.tetri_state.specs.Planning.{instance_of}
use Rattle.tetri_state.specs.Snapshot.{Snapshot}
use Rattle.tetri_state.specs.declared.pieces.Piece.{Piece}
use Rattle.tetri_trace.specs.Scenario.{Scenario}
use Rattle.tetri_chart.specs.declared.picture.Span.{Span}
use Rattle.tetri_svg.specs.declared.fate.Fate.{Fate}
use Rattle.tetri_svg.specs.declared.fate.Fate.TheVariants.{Ended, Cancelled, Failed, RunsOn}

-- what becomes of a piece that runs before a slot, at whose beginning these jobs fail and these are cancelled
abbrev pub fate_by : List ℕ → List ℕ → ℕ → Piece → Fate
fate_by failed cancelled now p =
    if has_ended now p then Ended
    else (if has failed p.job then Failed
    else (if has cancelled p.job then Cancelled else RunsOn))

-- the same of a slot at whose beginning this happens
abbrev pub fate_of : Occurrences → ℕ → Piece → Fate
fate_of o now p = fate_by o.failed o.cancelled now p

abbrev pub runs_on : Fate → Bool
runs_on RunsOn = true
runs_on _ = false

-- a piece up to this slot, with what became of it
abbrev pub span_of : ℕ → Fate → Piece → Span
span_of until fate p = record { job = p.job; nodes = p.nodes; from = p.started; expected = p.expected; until = until; fate = fate }

-- the pieces that run on
abbrev pub staying : Occurrences → ℕ → List Piece → List Piece
staying o now active = filter (λ p. runs_on (fate_of o now p)) active

-- those that do not, up to this slot
abbrev pub leaving : Occurrences → ℕ → List Piece → List Span
leaving o now active = map (λ p. span_of now (fate_of o now p) p) (filter (λ p. not (runs_on (fate_of o now p))) active)

-- the pieces that run behind a cycle, as they were launched, where these ran before it
abbrev pub running : Scenario → Snapshot → List Piece → Block → List Piece
running t s active b = staying (occurring t s) s.now active ++ new_pieces t (instance_of t (begin t s)) b.grants

-- The pieces of a run that goes on from this state, in which these run, with the cycles that are still to come: those that leave in an
-- earlier slot first, and last those that run on as the run ends.
abbrev pub pieces_from : Scenario → Snapshot → List Piece → List Block → List Span
pieces_from t s active [] = map (span_of s.now RunsOn) active
pieces_from t s active (b ∷ bs) = leaving (occurring t s) s.now active ++ pieces_from t (next t s b) (running t s active b) bs
