pub mod GreedyLaws
pub mod Marks
pub mod OpenLemmas
pub mod Placing
pub mod RankLemmas
pub mod ServingLemmas
pub mod Steps
