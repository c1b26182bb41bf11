use Rattle.std.proofs.Common.{◌≤◌}
use Rattle.tetri_space.specs.Space.{space}
use Rattle.tetri_trace.specs.Scenario.{scenario}
use Rattle.tetri_commands.proofs.AnswerLemmas.{Answering}
use Rattle.tetri_commands.proofs.answering.write_answers.Given as goal

abbrev pub invariant-loop-place : goal.invariant-loop-place
invariant-loop-place g l = record {
  so_far : Answering (scenario l.trace) l.place l.booked (space l.book.wanted) l.book.carry (g.K.Sink.written l.fn.sink) (g.K.Sink.written l.sink);
  few : l.booked ≤ l.place;
  later : g.K.Sink.faults l.fn.sink ≤ g.K.Sink.faults l.sink;
}
