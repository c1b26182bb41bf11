pub mod Held
pub mod Right
