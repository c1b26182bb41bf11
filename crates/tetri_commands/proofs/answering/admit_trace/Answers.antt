use Rattle.std.proofs.Common.{◌≡◌, ◌∙◌, ap, arith, length, refl}
use Rattle.std.proofs.lemmas.List.{length-map}
use Rattle.tetri_space.specs.Space.{Space, bid}
use Rattle.tetri_trace.specs.Scenario.{scenario}
use Rattle.tetri_commands.specs.Answered.{first_instance}
use Rattle.tetri_commands.proofs.AnswerLemmas.{count_line, stopped_before_count, stopped_first, stopped_in_count, wrote_answers}
use Rattle.tetri_commands.proofs.answering.admit_trace.Goals as goal

pub returns-in_err-inst-clause-memory : goal.returns-in_err-inst-clause-memory
returns-in_err-inst-clause-memory g c = λ e. stopped_first (scenario c.args.trace.now) (g.K.Sink.written c.args.sink.now) (g.K.Sink.written c.args.sink.now) refl

pub returns-in_err-line-clause-memory : goal.returns-in_err-line-clause-memory
returns-in_err-line-clause-memory g c =
    λ e. stopped_before_count (scenario c.args.trace.now) c.in_ok-booked.booked (g.K.Sink.written c.args.sink.now) (g.K.Sink.written c.write_answers.new.sink) (g.K.Sink.written c.write_answers.new.sink)
    c.in_ok-booked.ensures.ok refl

pub returns-in_err-send_all-clause-failed : goal.returns-in_err-send_all-clause-failed
returns-in_err-send_all-clause-failed g c =
    let t = scenario c.args.trace.now in
    let jobs : c.len.result ≡ length (first_instance t).bids =
    omega (arith, c.len.ensures, c.in_ok-inst.inst.jobs.ok.0, length-map c.in_ok-inst.inst.jobs.items bid, ap (λ (i : Space). length i.bids) c.in_ok-inst.ensures.instance) in
    λ e. stopped_in_count t c.in_ok-booked.booked (g.K.Sink.written c.args.sink.now) (g.K.Sink.written c.write_answers.new.sink) (g.K.Sink.written c.send_all.new.sink) c.in_ok-booked.ensures.ok
    c.deref.result.now
    (c.deref.ensures.value ∙ c.in_ok-line.ensures
    ∙ count_line t c.in_ok-booked.booked (g.K.Sink.written c.args.sink.now) (g.K.Sink.written c.write_answers.new.sink) c.in_ok-booked.ensures.ok c.len.result jobs)
    c.in_err-send_all.ensures.err

pub returns-clause-ok : goal.returns-clause-ok
returns-clause-ok g c =
    let t = scenario c.args.trace.now in
    let jobs : c.len.result ≡ length (first_instance t).bids =
    omega (arith, c.len.ensures, c.in_ok-inst.inst.jobs.ok.0, length-map c.in_ok-inst.inst.jobs.items bid, ap (λ (i : Space). length i.bids) c.in_ok-inst.ensures.instance) in
    wrote_answers t c.in_ok-booked.booked (g.K.Sink.written c.args.sink.now) (g.K.Sink.written c.write_answers.new.sink) (g.K.Sink.written c.send_all.new.sink) c.in_ok-booked.ensures.ok
    c.deref.result.now
    (c.deref.ensures.value ∙ c.in_ok-line.ensures
    ∙ count_line t c.in_ok-booked.booked (g.K.Sink.written c.args.sink.now) (g.K.Sink.written c.write_answers.new.sink) c.in_ok-booked.ensures.ok c.len.result jobs)
    c.in_ok-send_all.ensures.ok
