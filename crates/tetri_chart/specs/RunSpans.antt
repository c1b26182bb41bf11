-- The spans of the pieces that a run launches, by the states of the run.
use Rattle.std.specs.Prelude.{◌≡◌, ◌⊎◌, List, [], ◌∷◌, ◌++◌, Contains}
use Rattle.std.specs.List.Sorted.{IsPermutation}
use Rattle.tetri_report.specs.Block.{Block}
use Rattle.tetri_state.specs.After.{new_pieces}
use Rattle.tetri_state.specs.Begin.{begin, occurring}
use Rattle.tetri_state.specs.Pieces.{IsSameRun}
use Rattle.tetri_state.specs.Planning.{instance_of}
use Rattle.tetri_state.specs.Snapshot.{Snapshot, opening_state}
use Rattle.tetri_state.specs.declared.pieces.Piece.{Piece}
use Rattle.tetri_trace.specs.Scenario.{Scenario}
use Rattle.tetri_chart.specs.Pieces.{fate_of, span_of}
use Rattle.tetri_cycles.specs.Observed.{next}
use Rattle.tetri_chart.specs.declared.picture.Span.{Span}
use Rattle.tetri_svg.specs.declared.fate.Fate.TheVariants.{RunsOn}

-- the piece runs in this state
abbrev pub RunsIn : Snapshot → Piece → Type 0
RunsIn s p = (q : Piece) × Contains s.pieces q × IsSameRun p q

-- The span of a piece that was launched, where this state follows and these cycles are still to come: it ends in the first slot whose
-- beginning leaves a state in which the piece runs no more, with what became of it there, and else as the run ends.
abbrev pub IsSpanOf : Scenario → Snapshot → List Block → Piece → Span → Type 0
IsSpanOf t s [] p x = x ≡ span_of s.now RunsOn p
IsSpanOf t s (b ∷ bs) p x =
    (RunsIn (begin t s) p × IsSpanOf t (next t s b) bs p x) ⊎ ((RunsIn (begin t s) p → ⊥) × (x ≡ span_of s.now (fate_of (occurring t s) s.now p) p))

-- the spans of such pieces, in their order
abbrev pub AreSpansOf : Scenario → Snapshot → List Block → List Piece → List Span → Type 0
AreSpansOf t s bs [] xs = xs ≡ []
AreSpansOf t s bs (p ∷ ps) xs = (x : Span) × (rest : List Span) × (xs ≡ x ∷ rest) × IsSpanOf t s bs p x × AreSpansOf t s bs ps rest

-- the spans of all pieces that these cycles launch from this state on, in the order of their launch
abbrev pub AreSpansOfAll : Scenario → Snapshot → List Block → List Span → Type 0
AreSpansOfAll t s [] xs = xs ≡ []
AreSpansOfAll t s (b ∷ bs) xs =
    (first : List Span) × (rest : List Span) × (xs ≡ first ++ rest) × AreSpansOf t (next t s b) bs (new_pieces t (instance_of t (begin t s)) b.grants) first
    × AreSpansOfAll t (next t s b) bs rest

-- The spans are those of the pieces of the run with these cycles: one for each piece that a cycle launches, and no other.
pub record TellsPieces (t : Scenario) (bs : List Block) (spans : List Span) : Type 0 where
  pub told : List Span
  pub one_each : AreSpansOfAll t (opening_state t) bs told
  pub reordered : IsPermutation told spans
