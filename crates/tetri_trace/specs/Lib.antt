pub mod Scenario
pub mod Sound
pub mod Answers
pub mod Closures
pub mod Lines
pub mod Named
pub mod Draft
pub mod Reading
