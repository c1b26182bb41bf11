pub mod Planning
pub mod Ready
pub mod Cycles
pub mod Texts
pub mod Told
pub mod Tally
pub mod Progress
pub mod Observed
