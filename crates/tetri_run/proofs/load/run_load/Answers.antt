use Rattle.tetri_make.specs.Generated.{generated}
use Rattle.tetri_trace.specs.Scenario.{scenario}
use Rattle.tetri_run.proofs.TopLemmas.{load_of}
use Rattle.tetri_run.proofs.load.run_load.Goals as goal

pub returns-in-Ok-clause-promise : goal.returns-in-Ok-clause-promise
returns-in-Ok-clause-promise g c =
    load_of _ (scenario c.in-Ok.trace) (g.K.Sink.written c.args.sink.now) (g.K.Sink.written c.run_told.new.sink) c.run_told.result (generated c.args.number) c.in-Ok.ensures.trace
    c.run_told.ensures.answer
