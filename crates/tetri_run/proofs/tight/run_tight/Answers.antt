use Rattle.tetri_trace.specs.Lines.{scenario_in}
use Rattle.tetri_trace.specs.Scenario.{scenario}
use Rattle.tetri_run.specs.declared.telling.Telling.TheVariants.{Tight}
use Rattle.tetri_run.proofs.TopLemmas.{answer_promised}
use Rattle.tetri_run.proofs.tight.run_tight.Goals as goal

pub returns-in-Ok-clause-promise : goal.returns-in-Ok-clause-promise
returns-in-Ok-clause-promise g c = λ content told.
    answer_promised (scenario_in content) (scenario c.in-Ok.trace) (c.in-Ok.ensures.exact content told) Tight _ _ c.run_told.result
    (g.K.Sink.written c.args.sink.now) (g.K.Sink.written c.run_told.new.sink) (λ whole. whole) c.run_told.ensures.answer
