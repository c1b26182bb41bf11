use Rattle.std.proofs.Common.{sym, arith}
use Rattle.tetri_trace.specs.Scenario.{scenario}
use Rattle.tetri_chart.specs.Text.{span_text}
use Rattle.tetri_chart.proofs.WriteLemmas.{all_at, append_none, front_at, part_at}
use Rattle.tetri_chart.proofs.writing.send_spans.Goals as goal

pub loop-span-init : goal.loop-span-init
loop-span-init g c = record { written = sym (append_none (g.K.Sink.written c.args.sink.now)); later = omega arith }

pub loop-span-preserved : goal.loop-span-preserved
loop-span-preserved g c =
    let f = span_text (scenario c.args.trace.now) c.args.frame.now c.args.paint.now in
    let l = c.loop-span in
    record {
      written = all_at f c.args.spans.now l.span-index c.span-item.result c.loop-span-test.true c.span-item.is (g.K.Sink.written c.args.sink.now) (g.K.Sink.written l.sink)
          (g.K.Sink.written c.send_span.new.sink) l.invariant.written c.in-Ok.ensures.ok;
      later = omega (arith, l.invariant.later, c.send_span.ensures.later);
    }

pub returns-in-Err-clause-failed : goal.returns-in-Err-clause-failed
returns-in-Err-clause-failed g c = λ e.
    let f = span_text (scenario c.args.trace.now) c.args.frame.now c.args.paint.now in
    let l = c.loop-span in
    part_at f c.args.spans.now l.span-index c.span-item.result c.loop-span-test.true c.span-item.is (g.K.Sink.written c.args.sink.now) (g.K.Sink.written l.sink)
    (g.K.Sink.written c.send_span.new.sink) l.invariant.written (c.in-Err.ensures.failed e)

pub returns-in-Err-clause-memory : goal.returns-in-Err-clause-memory
returns-in-Err-clause-memory g c = λ e.
    let f = span_text (scenario c.args.trace.now) c.args.frame.now c.args.paint.now in
    let l = c.loop-span in
    front_at f c.args.spans.now l.span-index c.span-item.result c.loop-span-test.true c.span-item.is (g.K.Sink.written c.args.sink.now) (g.K.Sink.written l.sink)
    (g.K.Sink.written c.send_span.new.sink) l.invariant.written (c.in-Err.ensures.memory e)
