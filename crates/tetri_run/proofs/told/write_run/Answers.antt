use Rattle.std.proofs.lemmas.Result.{on_ok_weaker}
use Rattle.tetri_advice.specs.Sitting.{seats}
use Rattle.tetri_cycles.proofs.CycleLaws.{between_of, stopped_of, wrote_of}
use Rattle.tetri_trace.specs.Scenario.{scenario}
use Rattle.tetri_run.specs.Telling.{block_cycles}
use Rattle.tetri_run.proofs.AdvisedLemmas.{panel_run, panel_stays}
use Rattle.tetri_run.proofs.told.write_run.Goals as goal

pub returns-clause-ok : goal.returns-clause-ok
returns-clause-ok g c =
    let t = scenario c.args.trace.now in
    let sat = seats g.A.Advisor.says g.A.Advisor.misses g.A.Advisor.creed in
    on_ok_weaker c.run_cycles.result
    (wrote_of block_cycles c.args.telling _ _ t (panel_run sat (λ p. p.missed) t c.requires c.args.panel.now c.run_cycles.new.planner) (g.K.Sink.written c.args.sink.now) (g.K.Sink.written c.run_cycles.new.sink))
    c.run_cycles.ensures.ok

pub returns-clause-failed : goal.returns-clause-failed
returns-clause-failed g c = λ e.
    let t = scenario c.args.trace.now in
    let sat = seats g.A.Advisor.says g.A.Advisor.misses g.A.Advisor.creed in
    stopped_of block_cycles c.args.telling _ _ t (panel_run sat (λ p. p.missed) t c.requires c.args.panel.now c.run_cycles.new.planner) (g.K.Sink.written c.args.sink.now) (g.K.Sink.written c.run_cycles.new.sink)
    (c.run_cycles.ensures.failed e)

pub returns-clause-memory : goal.returns-clause-memory
returns-clause-memory g c = λ e.
    let t = scenario c.args.trace.now in
    let sat = seats g.A.Advisor.says g.A.Advisor.misses g.A.Advisor.creed in
    between_of block_cycles c.args.telling _ _ t (panel_run sat (λ p. p.missed) t c.requires c.args.panel.now c.run_cycles.new.planner) (g.K.Sink.written c.args.sink.now) (g.K.Sink.written c.run_cycles.new.sink)
    (c.run_cycles.ensures.memory e)

pub returns-clause-creeds : goal.returns-clause-creeds
returns-clause-creeds g c =
    let ran = c.run_cycles.ensures.some in
    (panel_stays (seats g.A.Advisor.says g.A.Advisor.misses g.A.Advisor.creed) (λ p. p.missed) (scenario c.args.trace.now) c.args.panel.now c.run_cycles.new.planner ran.0 ran.1).0

pub returns-clause-later_misses : goal.returns-clause-later_misses
returns-clause-later_misses g c =
    let ran = c.run_cycles.ensures.some in
    (panel_stays (seats g.A.Advisor.says g.A.Advisor.misses g.A.Advisor.creed) (λ p. p.missed) (scenario c.args.trace.now) c.args.panel.now c.run_cycles.new.planner ran.0 ran.1).1
