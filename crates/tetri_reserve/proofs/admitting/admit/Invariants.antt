use Rattle.tetri_space.specs.Space.{space}
use Rattle.tetri_reserve.specs.Book.{IsBook}
use Rattle.tetri_reserve.proofs.admitting.admit.Given as goal

abbrev pub invariant-loop-place : goal.invariant-loop-place
invariant-loop-place l = IsBook (space l.inst) l.budget l.place l.answers.items (space l.book.wanted) l.book.carry
