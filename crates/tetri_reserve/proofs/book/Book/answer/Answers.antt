use Rattle.tetri_space.specs.Space.{bid, space}
use Rattle.tetri_reserve.proofs.book.Book.answer.Goals as goal

pub returns-clause-wanted : goal.returns-clause-wanted
returns-clause-wanted c = c.in_ok-keep.ensures.wanted (space c.args.self.now.wanted) (bid c.args.offer.now) c.in_ok-plan.ensures.wanted
