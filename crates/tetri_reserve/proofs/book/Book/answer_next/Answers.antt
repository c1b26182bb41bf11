use Rattle.std.proofs.Common.{◌<◌, Contains, arith, length, refl, subst, sym}
use Rattle.std.proofs.lemmas.List.{length-map}
use Rattle.tetri_space.specs.Sound.{IsSoundBid}
use Rattle.tetri_space.specs.Space.{bid, space}
use Rattle.tetri_space.proofs.InstanceLaws.{bid_has}
use Rattle.tetri_split.specs.Parts.{jobs_in}
use Rattle.tetri_reserve.proofs.BookLemmas.{asks_few, asks_lawful, asks_sound, asks_thrifty, is_answer, job_pending, next_book, next_offer}
use Rattle.tetri_reserve.proofs.MeaningLemmas.{is_true}
use Rattle.tetri_reserve.proofs.book.Book.answer_next.Goals as goal

pub answer-requires-clause-shallow : goal.answer-requires-clause-shallow
answer-requires-clause-shallow c =
    let s = space c.args.inst.now in
    let os = c.args.inst.now.jobs.items in
    let within : c.args.place < length os = omega (arith, c.requires.within, length-map os bid) in
    let good = bid_has (IsSoundBid s) os c.args.place c.index.result.now c.requires.sound.sound_bids within c.index.ensures in
    good.well_made.shallow

pub answer-requires-clause-sound : goal.answer-requires-clause-sound
answer-requires-clause-sound c =
    let s = space c.args.inst.now in
    let os = c.args.inst.now.jobs.items in
    let within : c.args.place < length os = omega (arith, c.requires.within, length-map os bid) in
    let next = next_offer s os c.args.place c.index.result.now c.requires.sound refl within c.index.ensures in
    asks_sound s c.args.budget c.args.place c.requires.book.0 (space c.args.self.now.wanted) c.args.self.now.carry (bid c.index.result.now) c.requires.sound next c.requires.book.1

pub answer-requires-clause-lawful : goal.answer-requires-clause-lawful
answer-requires-clause-lawful c =
    let s = space c.args.inst.now in
    let os = c.args.inst.now.jobs.items in
    let within : c.args.place < length os = omega (arith, c.requires.within, length-map os bid) in
    let next = next_offer s os c.args.place c.index.result.now c.requires.sound refl within c.index.ensures in
    asks_lawful s c.args.budget c.args.place c.requires.book.0 (space c.args.self.now.wanted) c.args.self.now.carry (bid c.index.result.now) c.requires.sound next c.requires.book.1

pub answer-requires-clause-thrifty : goal.answer-requires-clause-thrifty
answer-requires-clause-thrifty c =
    let s = space c.args.inst.now in
    let os = c.args.inst.now.jobs.items in
    let within : c.args.place < length os = omega (arith, c.requires.within, length-map os bid) in
    let next = next_offer s os c.args.place c.index.result.now c.requires.sound refl within c.index.ensures in
    asks_thrifty s c.args.budget c.args.place c.requires.book.0 (space c.args.self.now.wanted) c.args.self.now.carry (bid c.index.result.now) c.requires.sound next c.requires.book.1

pub answer-requires-clause-few : goal.answer-requires-clause-few
answer-requires-clause-few c =
    let s = space c.args.inst.now in
    let os = c.args.inst.now.jobs.items in
    let within : c.args.place < length os = omega (arith, c.requires.within, length-map os bid) in
    let next = next_offer s os c.args.place c.index.result.now c.requires.sound refl within c.index.ensures in
    asks_few s c.args.budget c.args.place c.requires.book.0 (space c.args.self.now.wanted) c.args.self.now.carry (bid c.index.result.now) c.requires.sound next c.requires.book.1

pub returns-clause-pending : goal.returns-clause-pending
returns-clause-pending c =
    let s = space c.args.inst.now in
    let os = c.args.inst.now.jobs.items in
    let within : c.args.place < length os = omega (arith, c.requires.within, length-map os bid) in
    let next = next_offer s os c.args.place c.index.result.now c.requires.sound refl within c.index.ensures in
    subst (Contains (jobs_in s.bids)) (sym c.in_ok-answer.ensures.job) (job_pending s.bids (bid c.index.result.now) next.pending)

pub returns-clause-lawful : goal.returns-clause-lawful
returns-clause-lawful c =
    let s = space c.args.inst.now in
    let os = c.args.inst.now.jobs.items in
    let within : c.args.place < length os = omega (arith, c.requires.within, length-map os bid) in
    let b = bid c.index.result.now in
    let next = next_offer s os c.args.place c.index.result.now c.requires.sound refl within c.index.ensures in
    let a = c.in_ok-answer.answer in
    let e = c.in_ok-answer.ensures in
    let book = c.answer.new.self in
    let true_answer = is_true s c.args.budget c.requires.book.0 b a
    (is_answer s c.args.budget c.args.place c.requires.book.0 (space c.args.self.now.wanted) c.args.self.now.carry b c.requires.sound next c.requires.book.1
    a (space book.wanted) book.carry e.job e.answered e.wanted e.carry) in
    true_answer.lawful

pub returns-clause-book : goal.returns-clause-book
returns-clause-book c =
    let s = space c.args.inst.now in
    let os = c.args.inst.now.jobs.items in
    let within : c.args.place < length os = omega (arith, c.requires.within, length-map os bid) in
    let b = bid c.index.result.now in
    let next = next_offer s os c.args.place c.index.result.now c.requires.sound refl within c.index.ensures in
    let a = c.in_ok-answer.answer in
    let e = c.in_ok-answer.ensures in
    let book = c.answer.new.self in
    λ answers is. next_book s c.args.budget c.args.place answers (space c.args.self.now.wanted) c.args.self.now.carry b c.requires.sound next is
    a (space book.wanted) book.carry e.job e.answered e.wanted e.carry
