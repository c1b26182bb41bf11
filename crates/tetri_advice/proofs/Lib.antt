pub mod AdviceLaws
pub mod FitLemmas
pub mod FitSame
pub mod GreedyLemmas
pub mod OrderLemmas
pub mod SeatFacts
pub mod SeatLemmas
