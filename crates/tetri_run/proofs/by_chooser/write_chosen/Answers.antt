use Rattle.std.proofs.lemmas.Result.{on_ok_weaker}
use Rattle.tetri_cycles.proofs.CycleLaws.{between_of, stopped_of, wrote_of}
use Rattle.tetri_trace.specs.Scenario.{scenario}
use Rattle.tetri_run.specs.Telling.{block_cycles}
use Rattle.tetri_run.specs.declared.telling.Telling.TheVariants.{Report}
use Rattle.tetri_run.proofs.TopLemmas.{chosen_run}
use Rattle.tetri_run.proofs.by_chooser.write_chosen.Goals as goal

pub returns-clause-ok : goal.returns-clause-ok
returns-clause-ok g c =
    let t = scenario c.args.trace.now in
    on_ok_weaker c.run_cycles.result
    (wrote_of block_cycles Report _ _ t (chosen_run c.args.planner.now c.run_cycles.new.planner t) (g.K.Sink.written c.args.sink.now) (g.K.Sink.written c.run_cycles.new.sink))
    c.run_cycles.ensures.ok

pub returns-clause-failed : goal.returns-clause-failed
returns-clause-failed g c = λ e.
    let t = scenario c.args.trace.now in
    stopped_of block_cycles Report _ _ t (chosen_run c.args.planner.now c.run_cycles.new.planner t) (g.K.Sink.written c.args.sink.now) (g.K.Sink.written c.run_cycles.new.sink)
    (c.run_cycles.ensures.failed e)

pub returns-clause-memory : goal.returns-clause-memory
returns-clause-memory g c = λ e.
    let t = scenario c.args.trace.now in
    between_of block_cycles Report _ _ t (chosen_run c.args.planner.now c.run_cycles.new.planner t) (g.K.Sink.written c.args.sink.now) (g.K.Sink.written c.run_cycles.new.sink)
    (c.run_cycles.ensures.memory e)
