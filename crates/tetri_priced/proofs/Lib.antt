pub mod CycleLemmas
pub mod LowestLemmas
pub mod TotalLemmas
pub mod NotedLemmas
pub mod AnswerLemmas
