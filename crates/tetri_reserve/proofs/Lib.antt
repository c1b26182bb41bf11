pub mod WantedLemmas
pub mod MeaningLemmas
pub mod PlanLemmas
pub mod BookLemmas
