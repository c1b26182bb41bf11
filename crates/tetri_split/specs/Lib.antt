pub mod Grouped
pub mod Labels
pub mod Parts
pub mod Restricted
