pub mod Levels
pub mod Rules
pub mod Lint
