pub mod PlanOf
pub mod Wasted
pub mod Verdict
pub mod Answers
pub mod Places
pub mod Seen
