use Rattle.tetri_trace.specs.Scenario.{scenario}
use Rattle.tetri_chart.proofs.SheetLemmas.{between_front, between_part, end_front, end_part, lower_front, lower_part, opening_front, opening_part, sheet_all, upper_front, upper_part}
use Rattle.tetri_chart.proofs.sheet.draw_pair.Goals as goal

pub returns-in-Err-clause-failed : goal.returns-in-Err-clause-failed
returns-in-Err-clause-failed g c = λ e.
    let t = scenario c.args.trace.now in
    opening_part t c.args.view c.args.first.now c.args.second.now c.shared_view-shared.result c.shared_view-shared.ensures c.framed-frame.result c.framed-frame.ensures (g.K.Sink.written c.args.sink.now)
    (g.K.Sink.written c.send_sheet.new.sink) (c.in-Err.ensures.failed e)

pub returns-in-Err-clause-memory : goal.returns-in-Err-clause-memory
returns-in-Err-clause-memory g c = λ e.
    let t = scenario c.args.trace.now in
    opening_front t c.args.view c.args.first.now c.args.second.now c.shared_view-shared.result c.shared_view-shared.ensures c.framed-frame.result c.framed-frame.ensures (g.K.Sink.written c.args.sink.now)
    (g.K.Sink.written c.send_sheet.new.sink) (c.in-Err.ensures.memory e)

pub returns-in-Err-draw-clause-failed : goal.returns-in-Err-draw-clause-failed
returns-in-Err-draw-clause-failed g c = λ e.
    let t = scenario c.args.trace.now in
    upper_part t c.args.view c.args.first.now c.args.second.now c.shared_view-shared.result c.shared_view-shared.ensures c.framed-frame.result c.framed-frame.ensures (g.K.Sink.written c.args.sink.now)
    (g.K.Sink.written c.send_sheet.new.sink) c.in-Ok.ensures.ok
    (g.K.Sink.written c.draw.new.sink) (c.in-Err-draw.ensures.failed e)

pub returns-in-Err-draw-clause-memory : goal.returns-in-Err-draw-clause-memory
returns-in-Err-draw-clause-memory g c = λ e.
    let t = scenario c.args.trace.now in
    upper_front t c.args.view c.args.first.now c.args.second.now c.shared_view-shared.result c.shared_view-shared.ensures c.framed-frame.result c.framed-frame.ensures (g.K.Sink.written c.args.sink.now)
    (g.K.Sink.written c.send_sheet.new.sink) c.in-Ok.ensures.ok
    (g.K.Sink.written c.draw.new.sink) (c.in-Err-draw.ensures.memory e)

pub returns-in-Err-send_below-clause-failed : goal.returns-in-Err-send_below-clause-failed
returns-in-Err-send_below-clause-failed g c = λ e.
    let t = scenario c.args.trace.now in
    between_part t c.args.view c.args.first.now c.args.second.now c.shared_view-shared.result c.shared_view-shared.ensures c.framed-frame.result c.framed-frame.ensures (g.K.Sink.written c.args.sink.now)
    (g.K.Sink.written c.send_sheet.new.sink) c.in-Ok.ensures.ok
    (g.K.Sink.written c.draw.new.sink) c.in-Ok-draw.ensures.ok
    (g.K.Sink.written c.send_below.new.sink) (c.in-Err-send_below.ensures.failed e)

pub returns-in-Err-send_below-clause-memory : goal.returns-in-Err-send_below-clause-memory
returns-in-Err-send_below-clause-memory g c = λ e.
    let t = scenario c.args.trace.now in
    between_front t c.args.view c.args.first.now c.args.second.now c.shared_view-shared.result c.shared_view-shared.ensures c.framed-frame.result c.framed-frame.ensures (g.K.Sink.written c.args.sink.now)
    (g.K.Sink.written c.send_sheet.new.sink) c.in-Ok.ensures.ok
    (g.K.Sink.written c.draw.new.sink) c.in-Ok-draw.ensures.ok
    (g.K.Sink.written c.send_below.new.sink) (c.in-Err-send_below.ensures.memory e)

pub returns-in-Err-draw-2-clause-failed : goal.returns-in-Err-draw-2-clause-failed
returns-in-Err-draw-2-clause-failed g c = λ e.
    let t = scenario c.args.trace.now in
    lower_part t c.args.view c.args.first.now c.args.second.now c.shared_view-shared.result c.shared_view-shared.ensures c.framed-frame.result c.framed-frame.ensures (g.K.Sink.written c.args.sink.now)
    (g.K.Sink.written c.send_sheet.new.sink) c.in-Ok.ensures.ok
    (g.K.Sink.written c.draw.new.sink) c.in-Ok-draw.ensures.ok
    (g.K.Sink.written c.send_below.new.sink) c.in-Ok-send_below.ensures.ok
    (g.K.Sink.written c.draw-2.new.sink) (c.in-Err-draw-2.ensures.failed e)

pub returns-in-Err-draw-2-clause-memory : goal.returns-in-Err-draw-2-clause-memory
returns-in-Err-draw-2-clause-memory g c = λ e.
    let t = scenario c.args.trace.now in
    lower_front t c.args.view c.args.first.now c.args.second.now c.shared_view-shared.result c.shared_view-shared.ensures c.framed-frame.result c.framed-frame.ensures (g.K.Sink.written c.args.sink.now)
    (g.K.Sink.written c.send_sheet.new.sink) c.in-Ok.ensures.ok
    (g.K.Sink.written c.draw.new.sink) c.in-Ok-draw.ensures.ok
    (g.K.Sink.written c.send_below.new.sink) c.in-Ok-send_below.ensures.ok
    (g.K.Sink.written c.draw-2.new.sink) (c.in-Err-draw-2.ensures.memory e)

pub returns-in-Ok-send_end-clause-ok : goal.returns-in-Ok-send_end-clause-ok
returns-in-Ok-send_end-clause-ok g c =
    let t = scenario c.args.trace.now in
    sheet_all t c.args.view c.args.first.now c.args.second.now c.shared_view-shared.result c.shared_view-shared.ensures c.framed-frame.result c.framed-frame.ensures (g.K.Sink.written c.args.sink.now)
    (g.K.Sink.written c.send_sheet.new.sink) c.in-Ok.ensures.ok
    (g.K.Sink.written c.draw.new.sink) c.in-Ok-draw.ensures.ok
    (g.K.Sink.written c.send_below.new.sink) c.in-Ok-send_below.ensures.ok
    (g.K.Sink.written c.draw-2.new.sink) c.in-Ok-draw-2.ensures.ok
    (g.K.Sink.written c.send_end.new.sink) c.in-Ok-send_end.ensures.ok

pub returns-clause-failed : goal.returns-clause-failed
returns-clause-failed g c = λ e.
    let t = scenario c.args.trace.now in
    end_part t c.args.view c.args.first.now c.args.second.now c.shared_view-shared.result c.shared_view-shared.ensures c.framed-frame.result c.framed-frame.ensures (g.K.Sink.written c.args.sink.now)
    (g.K.Sink.written c.send_sheet.new.sink) c.in-Ok.ensures.ok
    (g.K.Sink.written c.draw.new.sink) c.in-Ok-draw.ensures.ok
    (g.K.Sink.written c.send_below.new.sink) c.in-Ok-send_below.ensures.ok
    (g.K.Sink.written c.draw-2.new.sink) c.in-Ok-draw-2.ensures.ok
    (g.K.Sink.written c.send_end.new.sink) (c.in-Err-send_end.ensures.failed e)

pub returns-clause-memory : goal.returns-clause-memory
returns-clause-memory g c = λ e.
    let t = scenario c.args.trace.now in
    end_front t c.args.view c.args.first.now c.args.second.now c.shared_view-shared.result c.shared_view-shared.ensures c.framed-frame.result c.framed-frame.ensures (g.K.Sink.written c.args.sink.now)
    (g.K.Sink.written c.send_sheet.new.sink) c.in-Ok.ensures.ok
    (g.K.Sink.written c.draw.new.sink) c.in-Ok-draw.ensures.ok
    (g.K.Sink.written c.send_below.new.sink) c.in-Ok-send_below.ensures.ok
    (g.K.Sink.written c.draw-2.new.sink) c.in-Ok-draw-2.ensures.ok
    (g.K.Sink.written c.send_end.new.sink) (c.in-Err-send_end.ensures.memory e)
