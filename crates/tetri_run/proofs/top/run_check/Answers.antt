use Rattle.std.proofs.Common.{◌∙◌, ap}
use Rattle.tetri_trace.specs.Lines.{scenario_in}
use Rattle.tetri_trace.specs.Scenario.{scenario}
use Rattle.tetri_run.proofs.SeenLemmas.{halt_promised, told_promised}
use Rattle.tetri_run.proofs.top.run_check.Goals as goal

pub returns-in-Ok-clause-check : goal.returns-in-Ok-clause-check
returns-in-Ok-clause-check g c = λ content lines told told_lines.
    told_promised (scenario_in content) (scenario c.in-Ok.trace) lines (c.in-Ok.ensures.kept content told) (c.in-Ok.ensures.seen lines told_lines).assured c.tell_accepted.result
    (g.K.Sink.written c.args.sink.now) (g.K.Sink.written c.tell_accepted.new.sink) c.tell_accepted.ensures.done c.tell_accepted.ensures.failed c.tell_accepted.ensures.ends

pub returns-in-Err-clause-check : goal.returns-in-Err-clause-check
returns-in-Err-clause-check g c = λ content lines told told_lines.
    halt_promised c.in-Err.status (scenario_in content) lines (g.K.Sink.written c.args.sink.now) (g.K.Sink.written c.args.sink.now) (c.in-Err.ensures.halted content lines told told_lines)

pub returns-in-Err-clause-accepts : goal.returns-in-Err-clause-accepts
returns-in-Err-clause-accepts g c = λ content lines t told is told_lines accepted quiet besides. c.in-Err.ensures.accepts content lines t told is told_lines accepted quiet tt
