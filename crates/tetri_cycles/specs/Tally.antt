-- What is added up over cycles, as the numbers of a run.
use Rattle.std.specs.Prelude.{length}
use Rattle.tetri_state.specs.Snapshot.{Snapshot}
use Rattle.tetri_report.specs.declared.cycle.Summary.{Summary}
use Rattle.tetri_cycles.specs.declared.tally.RunTally.{RunTally}

abbrev pub summary_at : Snapshot → RunTally → Summary
summary_at s tally = record {
  cycles = s.now;
  launched = length s.launched;
  ended = length s.ended;
  cancelled = length s.cancelled;
  expired = length s.expired;
  worth = tally.worth;
  optimal = tally.optimal;
}
