use Rattle.tetri_trace.specs.Lines.{scenario_in}
use Rattle.tetri_trace.specs.Scenario.{scenario}
use Rattle.tetri_run.proofs.TopLemmas.{chosen_promised}
use Rattle.tetri_run.proofs.by_chooser.run_chosen.Goals as goal

pub returns-in-Ok-clause-promise : goal.returns-in-Ok-clause-promise
returns-in-Ok-clause-promise g c = λ content told.
    chosen_promised (scenario_in content) (scenario c.in-Ok.trace) (c.in-Ok.ensures.exact content told) c.in-Ok.ensures.sound c.tell_chosen.result
    (g.K.Sink.written c.args.sink.now) (g.K.Sink.written c.tell_chosen.new.sink) c.tell_chosen.ensures.answer
