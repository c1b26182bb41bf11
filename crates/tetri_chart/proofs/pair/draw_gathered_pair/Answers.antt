use Rattle.std.proofs.Common.{◌≡◌, ◌∙◌, Err, List, ℕ, ap, subst, sym, inr}
use Rattle.std.specs.Io.KnownBytes.{append_known}
use Rattle.tetri_io.specs.Sink.{AppendsPart}
use Rattle.tetri_trace.specs.Scenario.{scenario}
use Rattle.tetri_chart.specs.Svg.{AppendsFront}
use Rattle.tetri_chart.proofs.PairLemmas.{same_pair}
use Rattle.tetri_chart.proofs.pair.draw_gathered_pair.Goals as goal

pub returns-in-Ok-draw_pair-clause-answer : goal.returns-in-Ok-draw_pair-clause-answer
returns-in-Ok-draw_pair-clause-answer g c = λ r s at_r at_s.
    let t = scenario c.args.trace.now in (
      sym c.has_slots.ensures ∙ c.if-not-has_slots.false,
      subst (λ (l : List ℕ). g.K.Sink.written c.draw_pair.new.sink ≡ append_known (g.K.Sink.written c.args.sink.now) l)
          (same_pair t c.args.view (c.in-Ok.ensures t r at_r) (c.in-Ok-chart_of.ensures t s at_s)) c.in-Ok-draw_pair.ensures.ok,
    )

pub returns-in-Err-Failed-clause-answer : goal.returns-in-Err-Failed-clause-answer
returns-in-Err-Failed-clause-answer g c = λ r s at_r at_s.
    let t = scenario c.args.trace.now in (
      sym c.has_slots.ensures ∙ c.if-not-has_slots.false,
      subst (λ (l : List ℕ). AppendsPart (g.K.Sink.written c.args.sink.now) (g.K.Sink.written c.draw_pair.new.sink) l)
          (same_pair t c.args.view (c.in-Ok.ensures t r at_r) (c.in-Ok-chart_of.ensures t s at_s)) (c.in-Err-Failed.ensures.failed (ap Err c.in-Err-Failed.field-0-is)),
    )

pub returns-clause-answer : goal.returns-clause-answer
returns-clause-answer g c = λ r s at_r at_s.
    let t = scenario c.args.trace.now in
    inr (
      sym c.has_slots.ensures ∙ c.if-not-has_slots.false,
      subst (λ (l : List ℕ). AppendsFront (g.K.Sink.written c.args.sink.now) (g.K.Sink.written c.draw_pair.new.sink) l)
          (same_pair t c.args.view (c.in-Ok.ensures t r at_r) (c.in-Ok-chart_of.ensures t s at_s)) (c.in-Err-NoMemory.ensures.memory (ap Err c.in-Err-NoMemory.field-0-is)),
    )
