use Rattle.std.proofs.Common.{◌∙◌, ap, refl, subst}
use Rattle.std.specs.Io.KnownBytes.{append_known}
use Rattle.tetri_io.specs.Sink.{AppendsPart}
use Rattle.tetri_trace.specs.Scenario.{scenario}
use Rattle.tetri_cycles.proofs.RunLemmas.{stopped_before_summary, stopped_in_summary, wrote_run}
use Rattle.tetri_cycles.proofs.cycles.run_cycles.Goals as goal

pub returns-in_err-text-clause-memory : goal.returns-in_err-text-clause-memory
returns-in_err-text-clause-memory g c = λ e.
    stopped_before_summary g.P.Planner.planning (scenario c.args.trace.now) c.args.telling c.args.planner.now c.run_slots.new.planner c.in_ok-summary.summary
    (g.K.Sink.written c.args.sink.now) (g.K.Sink.written c.run_slots.new.sink) (g.K.Sink.written c.run_slots.new.sink) c.in_ok-summary.ensures.ok refl

pub returns-in_err-send_all-clause-failed : goal.returns-in_err-send_all-clause-failed
returns-in_err-send_all-clause-failed g c = λ e.
    stopped_in_summary g.P.Planner.planning (scenario c.args.trace.now) c.args.telling c.args.planner.now c.run_slots.new.planner c.in_ok-summary.summary
    (g.K.Sink.written c.args.sink.now) (g.K.Sink.written c.run_slots.new.sink) (g.K.Sink.written c.send_all.new.sink) c.in_ok-summary.ensures.ok
    (subst (AppendsPart (g.K.Sink.written c.run_slots.new.sink) (g.K.Sink.written c.send_all.new.sink)) (c.deref.ensures.value ∙ c.in_ok-text.ensures) c.in_err-send_all.ensures.err)

pub returns-clause-ok : goal.returns-clause-ok
returns-clause-ok g c =
    wrote_run g.P.Planner.planning (scenario c.args.trace.now) c.args.telling c.args.planner.now c.run_slots.new.planner c.in_ok-summary.summary
    (g.K.Sink.written c.args.sink.now) (g.K.Sink.written c.run_slots.new.sink) (g.K.Sink.written c.send_all.new.sink) c.in_ok-summary.ensures.ok c.in_ok-summary.ensures.in_range
    (c.in_ok-send_all.ensures.ok ∙ ap (append_known (g.K.Sink.written c.run_slots.new.sink)) (c.deref.ensures.value ∙ c.in_ok-text.ensures))
