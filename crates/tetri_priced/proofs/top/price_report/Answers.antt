use Rattle.tetri_trace.specs.Lines.{scenario_in}
use Rattle.tetri_trace.specs.Scenario.{scenario}
use Rattle.tetri_priced.specs.Text.{priced_text}
use Rattle.tetri_priced.proofs.AnswerLemmas.{halted_promised, noting_tells, told_promised}
use Rattle.tetri_priced.proofs.top.price_report.Goals as goal

pub returns-in-Ok-clause-told : goal.returns-in-Ok-clause-told
returns-in-Ok-clause-told g c = λ content lines told told_lines.
    let t = scenario c.in-Ok.trace in
    let cs = c.cycles.result.now in
    let tells = noting_tells g.P.Pricer.gives t lines c.new-noting.result c.check_seen.new.observer (c.in-Ok.ensures.seen lines told_lines) c.args.wanted c.args.pricer cs c.new-noting.ensures.wanted c.new-noting.ensures.pricer c.new-noting.ensures.nothing c.cycles.ensures in
    told_promised g.P.Pricer.gives c.args.pricer c.args.wanted (scenario_in content) t lines (priced_text t c.args.wanted.prices cs) (c.in-Ok.ensures.kept content told) tells c.tell_cycles.result
    (g.K.Sink.written c.args.sink.now) (g.K.Sink.written c.tell_cycles.new.sink) c.tell_cycles.ensures.done c.tell_cycles.ensures.failed c.tell_cycles.ensures.silent c.tell_cycles.ensures.ends

pub returns-clause-told : goal.returns-clause-told
returns-clause-told g c = λ content lines told told_lines.
    halted_promised g.P.Pricer.gives c.args.pricer c.args.wanted c.in-Err.status (scenario_in content) lines (g.K.Sink.written c.args.sink.now) (c.in-Err.ensures.halted content lines told told_lines)

pub returns-clause-accepts : goal.returns-clause-accepts
returns-clause-accepts g c = λ content lines t told is told_lines accepted quiet besides. c.in-Err.ensures.accepts content lines t told is told_lines accepted quiet tt
