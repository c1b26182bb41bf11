-- Laws that crates above cite.
pub use Rattle.tetri_advice.proofs.FitLemmas.{IsRight}
pub use Rattle.tetri_advice.proofs.FitSame.{fit-same}
pub use Rattle.tetri_advice.proofs.GreedyLemmas.{bid_fit, good_bid, known_leaves}
pub use Rattle.tetri_advice.proofs.OrderLemmas.{all_of, each_of}
pub use Rattle.tetri_advice.proofs.SeatFacts.{creeds_asked, creeds_taught, given_lawful, heard_cycle, heard_each, heard_given, nobody_gives, rose_on, still_sit}
