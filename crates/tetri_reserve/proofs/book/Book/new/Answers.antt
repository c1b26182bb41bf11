use Rattle.tetri_space.specs.Space.{space}
use Rattle.tetri_reserve.proofs.BookLemmas.{first_book}
use Rattle.tetri_reserve.proofs.book.Book.new.Goals as goal

pub returns : goal.returns
returns c =
    let book = c.in_ok-book.book in
    λ budget. first_book (space c.args.inst.now) budget (space book.wanted) book.carry c.in_ok-book.ensures.wanted c.in_ok-book.ensures.carry
