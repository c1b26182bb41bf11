use Rattle.tetri_trace.specs.Lines.{scenario_in}
use Rattle.tetri_trace.specs.Scenario.{scenario}
use Rattle.tetri_run.proofs.TopLemmas.{plan_promised, report_promised}
use Rattle.tetri_run.proofs.top.run_plan.Goals as goal

pub returns-in-Ok-clause-promise : goal.returns-in-Ok-clause-promise
returns-in-Ok-clause-promise g c = λ content told.
    plan_promised (scenario_in content) (scenario c.in-Ok.trace) (c.in-Ok.ensures.exact content told) c.in-Ok.ensures.sound _ _ _ c.run_told.result
    (g.K.Sink.written c.args.sink.now) (g.K.Sink.written c.run_told.new.sink) c.run_told.ensures.answer

pub returns-in-Ok-clause-advised : goal.returns-in-Ok-clause-advised
returns-in-Ok-clause-advised g c = λ content told.
    report_promised (scenario_in content) (scenario c.in-Ok.trace) (c.in-Ok.ensures.exact content told) c.in-Ok.ensures.sound _ _ _ c.run_told.result
    (g.K.Sink.written c.args.sink.now) (g.K.Sink.written c.run_told.new.sink) c.run_told.ensures.answer
