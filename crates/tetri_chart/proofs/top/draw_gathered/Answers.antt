use Rattle.std.proofs.Common.{◌≡◌, ◌∙◌, Err, ap, subst, sym, inr}
use Rattle.std.specs.Io.KnownBytes.{append_known}
use Rattle.tetri_chart.specs.Picture.{Picture}
use Rattle.tetri_chart.specs.Svg.{AppendsFront, svg_text}
use Rattle.tetri_io.specs.Sink.{AppendsPart}
use Rattle.tetri_trace.specs.Scenario.{scenario}
use Rattle.tetri_chart.proofs.top.draw_gathered.Goals as goal

pub returns-in-Ok-draw-clause-answer : goal.returns-in-Ok-draw-clause-answer
returns-in-Ok-draw-clause-answer g c = λ s now.
    let t = scenario c.args.trace.now in (
      sym c.has_slots.ensures ∙ c.if-not-has_slots.false,
      subst (λ (p : Picture). g.K.Sink.written c.draw.new.sink ≡ append_known (g.K.Sink.written c.args.sink.now) (svg_text t c.args.view.now p)) (c.in-Ok.ensures t s now) c.in-Ok-draw.ensures.ok,
    )

pub returns-in-Err-Failed-clause-answer : goal.returns-in-Err-Failed-clause-answer
returns-in-Err-Failed-clause-answer g c = λ s now.
    let t = scenario c.args.trace.now in (
      sym c.has_slots.ensures ∙ c.if-not-has_slots.false,
      subst (λ (p : Picture). AppendsPart (g.K.Sink.written c.args.sink.now) (g.K.Sink.written c.draw.new.sink) (svg_text t c.args.view.now p)) (c.in-Ok.ensures t s now)
          (c.in-Err-Failed.ensures.failed (ap Err c.in-Err-Failed.field-0-is)),
    )

pub returns-clause-answer : goal.returns-clause-answer
returns-clause-answer g c = λ s now.
    let t = scenario c.args.trace.now in
    inr (
      sym c.has_slots.ensures ∙ c.if-not-has_slots.false,
      subst (λ (p : Picture). AppendsFront (g.K.Sink.written c.args.sink.now) (g.K.Sink.written c.draw.new.sink) (svg_text t c.args.view.now p)) (c.in-Ok.ensures t s now)
          (c.in-Err-NoMemory.ensures.memory (ap Err c.in-Err-NoMemory.field-0-is)),
    )
