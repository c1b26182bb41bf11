-- What a picture of a run shows.
use Rattle.std.specs.Prelude.{ℕ, List, [], Option}
use Rattle.tetri_report.specs.Block.{Block}
use Rattle.tetri_state.specs.Snapshot.{opening_state}
use Rattle.tetri_trace.specs.Scenario.{Scenario}
use Rattle.tetri_chart.specs.Marks.{marks_from}
use Rattle.tetri_chart.specs.Pieces.{pieces_from}
use Rattle.tetri_chart.specs.Waits.{waits_from}
use Rattle.tetri_chart.specs.declared.picture.CycleMark.{CycleMark}
use Rattle.tetri_chart.specs.declared.picture.Span.{Span}
use Rattle.tetri_chart.specs.declared.picture.Wait.{Wait}

-- the pieces, the numbers of the cycles in their order, and the cycle whose waiting grants are shown, if one is, with these
pub record Picture : Type 0 where
  pub spans : List Span
  pub cycles : List CycleMark
  pub asked : Option ℕ
  pub waits : List Wait

-- what a report with these cycles shows
abbrev pub picture_of : Scenario → Option ℕ → List Block → Picture
picture_of t asked blocks = record {
  spans = pieces_from t (opening_state t) [] blocks;
  cycles = marks_from t (opening_state t) [] blocks;
  asked = asked;
  waits = waits_from t asked (opening_state t) blocks;
}
