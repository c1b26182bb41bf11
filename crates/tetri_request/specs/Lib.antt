pub mod Cycles
pub mod Options
