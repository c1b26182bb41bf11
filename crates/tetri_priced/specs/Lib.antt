pub mod Lowest
pub mod Quotes
pub mod Cycle
pub mod Wanted
pub mod Run
pub mod Text
pub mod Answer
