use Rattle.std.proofs.Common.{◌∙◌, ap, refl}
use Rattle.tetri_trace.specs.Scenario.{scenario}
use Rattle.tetri_chart.specs.Picture.{Picture}
use Rattle.tetri_chart.specs.Text.{meeting}
use Rattle.tetri_chart.proofs.WriteLemmas.{drawn_all, drawn_bars, drawn_before, drawn_behind, front_none, stopped_bars, stopped_behind}
use Rattle.tetri_chart.proofs.writing.draw.Goals as goal

pub returns-in-Err-clause-failed : goal.returns-in-Err-clause-failed
returns-in-Err-clause-failed g c = λ e.
    let t = scenario c.args.trace.now in
    let is = c.framed-frame.ensures in
    let counted = c.meeting-pieces.ensures ∙ ap (meeting c.framed-frame.result) (c.deref.ensures.value ∙ ap (λ (p : Picture). p.spans) c.chart.view_is) in
    drawn_before t c.args.view.now c.args.chart.now c.framed-frame.result c.meeting-pieces.result is counted c.in_ok-paint.paint c.in_ok-paint.ensures c.args.chart.now.spans refl (g.K.Sink.written c.args.sink.now) (g.K.Sink.written c.send_front.new.sink)
    (c.in-Err.ensures.failed e)

pub returns-in-Err-clause-memory : goal.returns-in-Err-clause-memory
returns-in-Err-clause-memory g c = λ e. front_none _ _ _ (c.in-Err.ensures.memory e)

pub returns-in-Err-send_spans-clause-failed : goal.returns-in-Err-send_spans-clause-failed
returns-in-Err-send_spans-clause-failed g c = λ e.
    let t = scenario c.args.trace.now in
    let is = c.framed-frame.ensures in
    let counted = c.meeting-pieces.ensures ∙ ap (meeting c.framed-frame.result) (c.deref.ensures.value ∙ ap (λ (p : Picture). p.spans) c.chart.view_is) in
    let are = c.deref-2.ensures.value ∙ ap (λ (p : Picture). p.spans) c.chart.view_is in
    drawn_bars t c.args.view.now c.args.chart.now c.framed-frame.result c.meeting-pieces.result is counted c.in_ok-paint.paint c.in_ok-paint.ensures c.deref-2.result.now are (g.K.Sink.written c.args.sink.now) (g.K.Sink.written c.send_front.new.sink)
    c.in-Ok.ensures.ok (g.K.Sink.written c.send_spans.new.sink) (c.in-Err-send_spans.ensures.failed e)

pub returns-in-Err-send_spans-clause-memory : goal.returns-in-Err-send_spans-clause-memory
returns-in-Err-send_spans-clause-memory g c = λ e.
    let t = scenario c.args.trace.now in
    let is = c.framed-frame.ensures in
    let counted = c.meeting-pieces.ensures ∙ ap (meeting c.framed-frame.result) (c.deref.ensures.value ∙ ap (λ (p : Picture). p.spans) c.chart.view_is) in
    let are = c.deref-2.ensures.value ∙ ap (λ (p : Picture). p.spans) c.chart.view_is in
    stopped_bars t c.args.view.now c.args.chart.now c.framed-frame.result c.meeting-pieces.result is counted c.in_ok-paint.paint c.in_ok-paint.ensures c.deref-2.result.now are (g.K.Sink.written c.args.sink.now) (g.K.Sink.written c.send_front.new.sink)
    c.in-Ok.ensures.ok (g.K.Sink.written c.send_spans.new.sink) (c.in-Err-send_spans.ensures.memory e)

pub returns-in-Ok-send_back-clause-ok : goal.returns-in-Ok-send_back-clause-ok
returns-in-Ok-send_back-clause-ok g c =
    let t = scenario c.args.trace.now in
    let is = c.framed-frame.ensures in
    let counted = c.meeting-pieces.ensures ∙ ap (meeting c.framed-frame.result) (c.deref.ensures.value ∙ ap (λ (p : Picture). p.spans) c.chart.view_is) in
    let are = c.deref-2.ensures.value ∙ ap (λ (p : Picture). p.spans) c.chart.view_is in
    drawn_all t c.args.view.now c.args.chart.now c.framed-frame.result c.meeting-pieces.result is counted c.in_ok-paint.paint c.in_ok-paint.ensures c.deref-2.result.now are (g.K.Sink.written c.args.sink.now) (g.K.Sink.written c.send_front.new.sink)
    c.in-Ok.ensures.ok (g.K.Sink.written c.send_spans.new.sink) c.in-Ok-send_spans.ensures.ok (g.K.Sink.written c.send_back.new.sink) c.in-Ok-send_back.ensures.ok

pub returns-clause-failed : goal.returns-clause-failed
returns-clause-failed g c = λ e.
    let t = scenario c.args.trace.now in
    let is = c.framed-frame.ensures in
    let counted = c.meeting-pieces.ensures ∙ ap (meeting c.framed-frame.result) (c.deref.ensures.value ∙ ap (λ (p : Picture). p.spans) c.chart.view_is) in
    let are = c.deref-2.ensures.value ∙ ap (λ (p : Picture). p.spans) c.chart.view_is in
    drawn_behind t c.args.view.now c.args.chart.now c.framed-frame.result c.meeting-pieces.result is counted c.in_ok-paint.paint c.in_ok-paint.ensures c.deref-2.result.now are (g.K.Sink.written c.args.sink.now) (g.K.Sink.written c.send_front.new.sink)
    c.in-Ok.ensures.ok (g.K.Sink.written c.send_spans.new.sink) c.in-Ok-send_spans.ensures.ok (g.K.Sink.written c.send_back.new.sink) (c.in-Err-send_back.ensures.failed e)

pub returns-clause-memory : goal.returns-clause-memory
returns-clause-memory g c = λ e.
    let t = scenario c.args.trace.now in
    let is = c.framed-frame.ensures in
    let counted = c.meeting-pieces.ensures ∙ ap (meeting c.framed-frame.result) (c.deref.ensures.value ∙ ap (λ (p : Picture). p.spans) c.chart.view_is) in
    let are = c.deref-2.ensures.value ∙ ap (λ (p : Picture). p.spans) c.chart.view_is in
    stopped_behind t c.args.view.now c.args.chart.now c.framed-frame.result c.meeting-pieces.result is counted c.in_ok-paint.paint c.in_ok-paint.ensures c.deref-2.result.now are (g.K.Sink.written c.args.sink.now) (g.K.Sink.written c.send_front.new.sink)
    c.in-Ok.ensures.ok (g.K.Sink.written c.send_spans.new.sink) c.in-Ok-send_spans.ensures.ok (g.K.Sink.written c.send_back.new.sink) (c.in-Err-send_back.ensures.memory e)
