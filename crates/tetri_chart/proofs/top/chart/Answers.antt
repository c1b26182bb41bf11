use Rattle.std.proofs.Common.{sym, subst}
use Rattle.tetri_trace.specs.Lines.{scenario_in}
use Rattle.tetri_trace.specs.Scenario.{Scenario, scenario}
use Rattle.tetri_run.proofs.RunLaws.{same_scenario}
use Rattle.tetri_chart.specs.Slots.{HasSlots}
use Rattle.tetri_chart.proofs.ChartLemmas.{drawn_of, drawn_promised, drawn_where_asked, halted_promised, never_bad, never_read, only_memory, silent, some_drawn, usage_where_not}
use Rattle.tetri_chart.proofs.top.chart.Goals as goal

pub returns-in-Ok-clause-drawn : goal.returns-in-Ok-clause-drawn
returns-in-Ok-clause-drawn g c = λ content lines told told_lines.
    let t = scenario c.in-Ok.trace in
    let before = g.K.Sink.written c.args.sink.now in
    let after = g.K.Sink.written c.draw_gathered.new.sink in
    let status = c.draw_gathered.result in
    drawn_promised c.args.cycle c.args.view.now status (scenario_in content) t lines before after (c.in-Ok.ensures.kept content told)
    (drawn_of t lines c.args.cycle c.args.view.now c.new-gathering.result c.check_seen.new.observer c.new-gathering.ensures.nothing (c.in-Ok.ensures.seen lines told_lines) status before after
    c.draw_gathered.ensures.answer)

pub returns-in-Ok-clause-bad_trace : goal.returns-in-Ok-clause-bad_trace
returns-in-Ok-clause-bad_trace g c = λ content line why told bad.
    let t = scenario c.in-Ok.trace in
    let before = g.K.Sink.written c.args.sink.now in
    let after = g.K.Sink.written c.draw_gathered.new.sink in
    let status = c.draw_gathered.result in
    let last = c.check_seen.new.observer in
    absurd (never_bad t c.args.view.now last before after status (some_drawn t c.args.view.now last before after status c.draw_gathered.ensures.answer) line why bad)

pub returns-in-Ok-clause-silent : goal.returns-in-Ok-clause-silent
returns-in-Ok-clause-silent g c =
    let t = scenario c.in-Ok.trace in
    let before = g.K.Sink.written c.args.sink.now in
    let after = g.K.Sink.written c.draw_gathered.new.sink in
    let status = c.draw_gathered.result in
    let last = c.check_seen.new.observer in
    silent t c.args.view.now last before after status (some_drawn t c.args.view.now last before after status c.draw_gathered.ensures.answer)

pub returns-in-Ok-clause-read : goal.returns-in-Ok-clause-read
returns-in-Ok-clause-read g c = λ read.
    let t = scenario c.in-Ok.trace in
    let before = g.K.Sink.written c.args.sink.now in
    let after = g.K.Sink.written c.draw_gathered.new.sink in
    let status = c.draw_gathered.result in
    let last = c.check_seen.new.observer in
    absurd (never_read t c.args.view.now last before after status (some_drawn t c.args.view.now last before after status c.draw_gathered.ensures.answer) read)

pub returns-in-Ok-clause-accepts : goal.returns-in-Ok-clause-accepts
returns-in-Ok-clause-accepts g c = λ content lines t told is told_lines accepted has quiet writes.
    let u = scenario c.in-Ok.trace in
    let before = g.K.Sink.written c.args.sink.now in
    let after = g.K.Sink.written c.draw_gathered.new.sink in
    let status = c.draw_gathered.result in
    let same = same_scenario content t u is (c.in-Ok.ensures.kept content told) in
    drawn_where_asked c.args.cycle c.args.view.now u lines before after status
    (drawn_of u lines c.args.cycle c.args.view.now c.new-gathering.result c.check_seen.new.observer c.new-gathering.ensures.nothing (c.in-Ok.ensures.seen lines told_lines) status before after
    c.draw_gathered.ensures.answer)
    (subst (λ (v : Scenario). HasSlots v c.args.cycle c.args.view.now) same has) (λ fault. writes (c.draw_gathered.ensures.write fault))

pub returns-in-Ok-clause-no_slots : goal.returns-in-Ok-clause-no_slots
returns-in-Ok-clause-no_slots g c = λ content lines t told is told_lines accepted lacks quiet.
    let u = scenario c.in-Ok.trace in
    let before = g.K.Sink.written c.args.sink.now in
    let after = g.K.Sink.written c.draw_gathered.new.sink in
    let status = c.draw_gathered.result in
    let same = same_scenario content t u is (c.in-Ok.ensures.kept content told) in
    usage_where_not c.args.cycle c.args.view.now u lines before after status
    (drawn_of u lines c.args.cycle c.args.view.now c.new-gathering.result c.check_seen.new.observer c.new-gathering.ensures.nothing (c.in-Ok.ensures.seen lines told_lines) status before after
    c.draw_gathered.ensures.answer)
    (λ has. lacks (subst (λ (v : Scenario). HasSlots v c.args.cycle c.args.view.now) (sym same) has))

pub returns-in-Err-clause-drawn : goal.returns-in-Err-clause-drawn
returns-in-Err-clause-drawn g c = λ content lines told told_lines.
    halted_promised c.args.cycle c.args.view.now c.in-Err.status (scenario_in content) lines (g.K.Sink.written c.args.sink.now) (c.in-Err.ensures.halted content lines told told_lines)

pub returns-in-Err-clause-accepts : goal.returns-in-Err-clause-accepts
returns-in-Err-clause-accepts g c = λ content lines t told is told_lines accepted has quiet writes.
    c.in-Err.ensures.accepts content lines t told is told_lines accepted quiet tt

pub returns-in-Err-clause-no_slots : goal.returns-in-Err-clause-no_slots
returns-in-Err-clause-no_slots g c = λ content lines t told is told_lines accepted lacks quiet.
    only_memory c.in-Err.status c.in-Err.ensures.halts (c.in-Err.ensures.accepts content lines t told is told_lines accepted quiet tt)
