use Rattle.std.proofs.Common.{◌≤◌, ◌+◌, [], List, length, subst, sym, arith}
use Rattle.std.proofs.lemmas.List.{length-map, take_all}
use Rattle.tetri_space.specs.Space.{Bid, bid, space}
use Rattle.tetri_reserve.specs.Answers.{EachAnswer, IsAnswer}
use Rattle.tetri_reserve.specs.Book.{IsBook}
use Rattle.tetri_reserve.specs.Meaning.{IsTrueAnswer}
use Rattle.tetri_reserve.specs.declared.answer.Answer.{Answer}
use Rattle.tetri_reserve.proofs.admitting.admit.Goals as goal

pub loop-place-init : goal.loop-place-init
loop-place-init c =
    let s = space c.args.inst.now in
    let book = c.in_ok-book.book in
    subst (λ (answers : List Answer). IsBook s c.args.budget 0 answers (space book.wanted) book.carry) (sym c.new-answers.ensures.items)
    (c.in_ok-book.ensures c.args.budget)

pub answer_next-requires-clause-within : goal.answer_next-requires-clause-within
answer_next-requires-clause-within c = omega (arith, c.loop-place-test.true, length-map c.args.inst.now.jobs.items bid)

pub answer_next-requires-clause-book : goal.answer_next-requires-clause-book
answer_next-requires-clause-book c = (c.loop-place.answers.items, c.loop-place.invariant)

pub loop-place-preserved : goal.loop-place-preserved
loop-place-preserved c =
    let s = space c.args.inst.now in
    let book = c.answer_next.new.self in
    subst (λ (answers : List Answer). IsBook s c.args.budget (c.loop-place.place + 1) answers (space book.wanted) book.carry) (sym c.in_ok-push.ensures.items)
    (c.in_ok-answer.ensures.book c.loop-place.answers.items c.loop-place.invariant)

pub returns-clause-answers : goal.returns-clause-answers
returns-clause-answers c =
    let s = space c.args.inst.now in
    let i = c.loop-place.place in
    let past : length s.bids ≤ i = omega (arith, c.loop-place-test.false, length-map c.args.inst.now.jobs.items bid) in
    subst (λ (bs : List Bid). EachAnswer (IsAnswer s c.args.budget) [] bs c.loop-place.answers.items) (take_all i s.bids past) c.loop-place.invariant.answered

pub returns-clause-meaning : goal.returns-clause-meaning
returns-clause-meaning c =
    let s = space c.args.inst.now in
    let i = c.loop-place.place in
    let past : length s.bids ≤ i = omega (arith, c.loop-place-test.false, length-map c.args.inst.now.jobs.items bid) in
    subst (λ (bs : List Bid). EachAnswer (IsTrueAnswer s c.args.budget) [] bs c.loop-place.answers.items) (take_all i s.bids past) c.loop-place.invariant.meaning
