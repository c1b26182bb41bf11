pub mod RunLemmas
pub mod ToldLemmas
pub mod ObserveLemmas
pub mod CycleLaws
