pub mod ChargeLemmas
pub mod AlikeLemmas
pub mod ChargedLemmas
pub mod RestLemmas
pub mod StandingLemmas
