pub mod PrintLaws
pub mod PlanLemmas
pub mod PartsLemmas
pub mod BoundLemmas
pub mod AnswerLemmas
