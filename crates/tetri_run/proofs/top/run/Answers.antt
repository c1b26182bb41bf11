use Rattle.std.proofs.Common.{◌≡◌, ◌∙◌, refl, sym}
use Rattle.std.specs.Prelude.{Some}
use Rattle.tetri_trace.specs.Lines.{scenario_in}
use Rattle.tetri_run.specs.Advised.{IsAdvisedRun}
use Rattle.tetri_run.specs.Answers.{AsksPanel, IsAnswerTo, IsComplete, MayRefuse}
use Rattle.tetri_run.specs.Run.{AnyLists, IsPlannedRun}
use Rattle.tetri_run.specs.Status.{RoseOf, trace_of}
use Rattle.tetri_run.specs.Words.{asked, asked_of, texts, to_plan}
use Rattle.tetri_run.proofs.AdvisedLemmas.{any_run}
use Rattle.tetri_run.proofs.TopLemmas.{by_asked, promise_weakens}
use Rattle.tetri_run.proofs.top.run.Goals as goal

pub returns-in-Some-clause-promise : goal.returns-in-Some-clause-promise
returns-in-Some-clause-promise g c = λ name content asks told.
    promise_weakens _ (IsPlannedRun AnyLists) (any_run _ _ _) c.answer.result (scenario_in content) (g.K.Sink.written c.args.sink.now) (g.K.Sink.written c.answer.new.sink)
    (by_asked (IsAnswerTo (g.S.Shelf.told c.args.shelf.now) _ c.answer.result (g.K.Sink.written c.args.sink.now) (g.K.Sink.written c.answer.new.sink)) (asked_of c.in-Some.request) (to_plan name)
    (asked (texts c.args.words.now)) c.in-Some.ensures.asked asks c.answer.ensures.answers content told)

pub returns-in-Some-clause-answers : goal.returns-in-Some-clause-answers
returns-in-Some-clause-answers g c = λ a asks.
    by_asked (IsAnswerTo (g.S.Shelf.told c.args.shelf.now) _ c.answer.result (g.K.Sink.written c.args.sink.now) (g.K.Sink.written c.answer.new.sink)) (asked_of c.in-Some.request) a
    (asked (texts c.args.words.now)) c.in-Some.ensures.asked asks c.answer.ensures.answers

pub returns-in-Some-clause-refused : goal.returns-in-Some-clause-refused
returns-in-Some-clause-refused g c = λ a line why asks e.
    by_asked MayRefuse (asked_of c.in-Some.request) a (asked (texts c.args.words.now)) c.in-Some.ensures.asked asks (c.answer.ensures.refused line why e)

pub returns-in-Some-clause-read : goal.returns-in-Some-clause-read
returns-in-Some-clause-read g c = λ a asks e.
    by_asked (λ x. RoseOf x (g.S.Shelf.faults c.args.shelf.now) (g.S.Shelf.faults c.answer.new.shelf)) (asked_of c.in-Some.request) a (asked (texts c.args.words.now)) c.in-Some.ensures.asked asks
    (c.answer.ensures.read e)

pub returns-in-Some-clause-complete : goal.returns-in-Some-clause-complete
returns-in-Some-clause-complete g c = λ a asks reads.
    by_asked (IsComplete (g.S.Shelf.told c.args.shelf.now) _ c.answer.result) (asked_of c.in-Some.request) a (asked (texts c.args.words.now)) c.in-Some.ensures.asked asks
    (c.answer.ensures.complete (λ rose. reads (by_asked (λ x. RoseOf x (g.S.Shelf.faults c.args.shelf.now) (g.S.Shelf.faults c.answer.new.shelf)) (asked_of c.in-Some.request) a
    (asked (texts c.args.words.now)) c.in-Some.ensures.asked asks rose)))

pub returns-in-Some-clause-refuses : goal.returns-in-Some-clause-refuses
returns-in-Some-clause-refuses g c = λ a name content line why asks names.
    c.answer.ensures.refuses name content line why
    (sym (by_asked (λ x. trace_of x ≡ trace_of (asked_of c.in-Some.request)) (asked_of c.in-Some.request) a (asked (texts c.args.words.now)) c.in-Some.ensures.asked asks refl) ∙ names)

pub returns-in-Some-clause-unasked : goal.returns-in-Some-clause-unasked
returns-in-Some-clause-unasked g c = λ a asks not.
    c.answer.ensures.unasked (λ asks_panel. not (by_asked AsksPanel (asked_of c.in-Some.request) a (asked (texts c.args.words.now)) c.in-Some.ensures.asked asks asks_panel))
