pub mod Start
pub mod Policies
pub mod Started
pub mod Decided
pub mod Run
