-- What was written of a whole run.
use Rattle.std.specs.Prelude.{◌≡◌, ℕ, List, Option, length, Ok}
use Rattle.std.specs.Io.KnownBytes.{append_known}
use Rattle.tetri_io.specs.Sink.{AppendsPart}
use Rattle.tetri_report.specs.Block.{Block}
use Rattle.tetri_report.specs.Reading.{report_in}
use Rattle.tetri_report.specs.Text.{summary_text}
use Rattle.tetri_report.specs.declared.cycle.Summary.{Summary}
use Rattle.tetri_trace.specs.Scenario.{Scenario}
use Rattle.tetri_run.specs.Check.{IsAccepted}
use Rattle.tetri_run.specs.Run.{in_order, report_text, summary_of}

-- The report of such a run, a whole one, was written, which is an accepted report: its lines read
-- as the cycles and the summary of the run.
pub record WroteReport (IsSuch : Scenario → List Block
    → Type 0) (t : Scenario) (before now : Option (List ℕ)) : Type 0 where
  pub past : List Block
  pub run : IsSuch t past
  pub whole : length past ≡ t.header.until
  pub written : now ≡ append_known before (report_text t past)
  pub reads : report_in t (report_text t past) ≡ Ok (in_order past, summary_of t past)
  pub accepted : IsAccepted t (report_text t past)

-- The summary is that of such a run, a whole one.
pub record IsSummaryOfRun (IsSuch : Scenario → List Block
    → Type 0) (t : Scenario) (summary : Summary) : Type 0 where
  pub past : List Block
  pub run : IsSuch t past
  pub whole : length past ≡ t.header.until
  pub counted : summary ≡ summary_of t past

-- The summary of such a run, a whole one, was written.
pub record WroteSummary (IsSuch : Scenario → List Block
    → Type 0) (t : Scenario) (before now : Option (List ℕ)) : Type 0 where
  pub summary : Summary
  pub of_run : IsSummaryOfRun IsSuch t summary
  pub written : now ≡ append_known before (summary_text summary)

-- A write failed in the summary of such a run, a whole one.
pub record StoppedInSummary (IsSuch : Scenario → List Block
    → Type 0) (t : Scenario) (before now : Option (List ℕ)) : Type 0 where
  pub summary : Summary
  pub of_run : IsSummaryOfRun IsSuch t summary
  pub written : AppendsPart before now (summary_text summary)
