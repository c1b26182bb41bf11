-- What is gathered of the cycles of a run.
use Rattle.std.specs.Prelude.{◌≡◌, List, [], ◌∷◌, ◌++◌}
use Rattle.tetri_report.specs.Block.{Block}
use Rattle.tetri_state.specs.Begin.{occurring}
use Rattle.tetri_state.specs.Snapshot.{Snapshot}
use Rattle.tetri_trace.specs.Scenario.{Scenario}
use Rattle.tetri_chart.specs.Pieces.{leaving, pieces_from, running}
use Rattle.tetri_chart.specs.Marks.{mark_of, marks_from}
use Rattle.tetri_chart.specs.Picture.{Picture}
use Rattle.tetri_chart.specs.Waits.{waits_from, waits_of}
use Rattle.tetri_chart.specs.declared.gathering.Gathering.{Gathering}

-- A cycle that begins in this state was taken into what is gathered.
pub record IsTaken (t : Scenario) (s : Snapshot) (b : Block) (old new : Gathering) : Type 0 where
  pub asked : new.asked ≡ old.asked
  pub active : new.active.items ≡ running t s old.active.items b
  pub spans : new.spans.items ≡ old.spans.items ++ leaving (occurring t s) s.now old.active.items
  pub cycles : new.cycles.items ≡ old.cycles.items ++ mark_of t s old.active.items b ∷ []
  pub waits : new.waits.items ≡ old.waits.items ++ waits_of t old.asked s b

-- what a picture shows of which this is gathered up to this state, once these cycles are gathered too
abbrev pub picture_with : Scenario → Snapshot → Gathering → List Block → Picture
picture_with t s g bs = record {
  spans = g.spans.items ++ pieces_from t s g.active.items bs;
  cycles = g.cycles.items ++ marks_from t s g.active.items bs;
  asked = g.asked;
  waits = g.waits.items ++ waits_from t g.asked s bs;
}
