use Rattle.std.proofs.Common.{◌≤◌, ◌∙◌, ◌+◌, ◌∷◌, ◌++◌, [], List, ap, length, refl, subst, sym, arith}
use Rattle.std.specs.Io.KnownBytes.{append_known}
use Rattle.std.proofs.lemmas.List.{length-map}
use Rattle.tetri_io.specs.Sink.{AppendsPart}
use Rattle.tetri_reserve.specs.Answers.{is_booked}
use Rattle.tetri_reserve.specs.Book.{IsBook, IsBookAt}
use Rattle.tetri_reserve.specs.declared.answer.Answer.{Answer}
use Rattle.tetri_space.specs.Space.{Space, bid, space}
use Rattle.tetri_trace.specs.Scenario.{scenario}
use Rattle.tetri_commands.specs.Answered.{first_instance}
use Rattle.tetri_commands.specs.AnswerText.{answer_text}
use Rattle.tetri_commands.proofs.AnswerLemmas.{all_answered, job_known, none_answered, one_if_le, one_more, stopped_between, stopped_first, stopped_in_answer}
use Rattle.tetri_commands.proofs.answering.write_answers.Goals as goal

pub loop-place-init : goal.loop-place-init
loop-place-init g c =
    let t = scenario c.args.trace.now in
    record {
      so_far = none_answered t (space c.in_ok-book.book.wanted) c.in_ok-book.book.carry (g.K.Sink.written c.args.sink.now)
          (subst (λ (s : Space). IsBook s t.header.budget 0 [] (space c.in_ok-book.book.wanted) c.in_ok-book.book.carry) c.requires.instance (c.in_ok-book.ensures t.header.budget));
      few = omega arith;
      later = omega arith;
    }

pub answer_next-requires-clause-sound : goal.answer_next-requires-clause-sound
answer_next-requires-clause-sound g c = c.requires.of_trace.sound

pub answer_next-requires-clause-within : goal.answer_next-requires-clause-within
answer_next-requires-clause-within g c = omega (arith, c.loop-place-test.true, length-map c.args.inst.now.jobs.items bid)

pub answer_next-requires-clause-book : goal.answer_next-requires-clause-book
answer_next-requires-clause-book g c =
    let t = scenario c.args.trace.now in
    let so_far = c.loop-place.invariant.so_far in
    subst (λ (s : Space). IsBookAt s t.header.budget c.loop-place.place (space c.loop-place.book.wanted) c.loop-place.book.carry) (sym c.requires.instance) (so_far.answers, so_far.book)

pub answer_text-requires-clause-instance : goal.answer_text-requires-clause-instance
answer_text-requires-clause-instance g c = c.requires.of_trace

pub answer_text-requires-clause-known : goal.answer_text-requires-clause-known
answer_text-requires-clause-known g c = job_known (scenario c.args.trace.now) (space c.args.inst.now) c.requires.of_trace c.in_ok-answer.answer.job c.in_ok-answer.ensures.pending

pub answer_text-requires-clause-lawful : goal.answer_text-requires-clause-lawful
answer_text-requires-clause-lawful g c = c.in_ok-answer.ensures.lawful

pub returns-in_err-book-clause-memory : goal.returns-in_err-book-clause-memory
returns-in_err-book-clause-memory g c = λ e. stopped_first (scenario c.args.trace.now) (g.K.Sink.written c.args.sink.now) (g.K.Sink.written c.args.sink.now) refl

pub returns-in_err-answer-clause-memory : goal.returns-in_err-answer-clause-memory
returns-in_err-answer-clause-memory g c =
    let t = scenario c.args.trace.now in
    let l = c.loop-place in
    λ e. stopped_between t l.place l.booked (space l.book.wanted) (space l.book.wanted) l.book.carry l.book.carry (g.K.Sink.written c.args.sink.now) (g.K.Sink.written l.sink) (g.K.Sink.written l.sink)
    l.invariant.so_far refl

pub returns-in_err-text-clause-memory : goal.returns-in_err-text-clause-memory
returns-in_err-text-clause-memory g c =
    let t = scenario c.args.trace.now in
    let l = c.loop-place in
    λ e. stopped_between t l.place l.booked (space l.book.wanted) (space l.book.wanted) l.book.carry l.book.carry (g.K.Sink.written c.args.sink.now) (g.K.Sink.written l.sink) (g.K.Sink.written l.sink)
    l.invariant.so_far refl

pub returns-in_err-send_all-clause-failed : goal.returns-in_err-send_all-clause-failed
returns-in_err-send_all-clause-failed g c =
    let t = scenario c.args.trace.now in
    let l = c.loop-place in
    let a = c.in_ok-answer.answer in
    let book = c.answer_next.new.self in
    let step = subst (λ (i : Space). (answers : List Answer) → IsBook i t.header.budget l.place answers (space l.book.wanted) l.book.carry
    → IsBook i t.header.budget (l.place + 1) (answers ++ a ∷ []) (space book.wanted) book.carry) c.requires.instance c.in_ok-answer.ensures.book in
    let so_far = l.invariant.so_far in
    λ e. stopped_in_answer t l.place l.booked (space l.book.wanted) (space book.wanted) l.book.carry book.carry (g.K.Sink.written c.args.sink.now) (g.K.Sink.written l.sink) (g.K.Sink.written c.send_all.new.sink)
    so_far a (step so_far.answers so_far.book)
    (subst (AppendsPart (g.K.Sink.written l.sink) (g.K.Sink.written c.send_all.new.sink))
    (c.deref.ensures.value ∙ c.in_ok-text.ensures ∙ ap (λ (i : Space). answer_text t i a) c.requires.instance) c.in_err-send_all.ensures.err)

pub loop-place-preserved : goal.loop-place-preserved
loop-place-preserved g c =
    let t = scenario c.args.trace.now in
    let l = c.loop-place in
    let a = c.in_ok-answer.answer in
    let book = c.answer_next.new.self in
    let step = subst (λ (i : Space). (answers : List Answer) → IsBook i t.header.budget l.place answers (space l.book.wanted) l.book.carry
    → IsBook i t.header.budget (l.place + 1) (answers ++ a ∷ []) (space book.wanted) book.carry) c.requires.instance c.in_ok-answer.ensures.book in
    let so_far = l.invariant.so_far in
    record {
      so_far = one_more t l.place l.booked (space l.book.wanted) (space book.wanted) l.book.carry book.carry (g.K.Sink.written c.args.sink.now) (g.K.Sink.written l.sink) (g.K.Sink.written c.send_all.new.sink)
          so_far a (step so_far.answers so_far.book) (l.booked + c.count_of-booked.result) (ap (λ n. l.booked + n) c.count_of-booked.ensures)
          (c.in_ok-send_all.ensures.ok ∙ ap (append_known (g.K.Sink.written l.sink))
          (c.deref.ensures.value ∙ c.in_ok-text.ensures ∙ ap (λ (i : Space). answer_text t i a) c.requires.instance));
      few = omega (arith, l.invariant.few, c.count_of-booked.ensures, one_if_le (is_booked a.kind));
      later = omega (arith, l.invariant.later, c.in_ok-send_all.ensures.cause.later);
    }

pub returns-clause-ok : goal.returns-clause-ok
returns-clause-ok g c =
    let t = scenario c.args.trace.now in
    let l = c.loop-place in
    let past : length (first_instance t).bids ≤ l.place = omega (arith, c.loop-place-test.false, length-map c.args.inst.now.jobs.items bid, ap (λ (i : Space). length i.bids) c.requires.instance) in
    all_answered t l.place l.booked (space l.book.wanted) (space l.book.wanted) l.book.carry l.book.carry (g.K.Sink.written c.args.sink.now) (g.K.Sink.written l.sink) (g.K.Sink.written l.sink) l.invariant.so_far past
