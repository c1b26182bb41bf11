pub mod ChoiceLemmas
pub mod KeptLemmas
pub mod PlanLaws
pub mod PlanLemmas
pub mod SearchedLemmas
pub mod TrimLemmas
