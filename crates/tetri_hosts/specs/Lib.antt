pub mod Answers
pub mod Expanding
pub mod States
pub mod Columns
pub mod Nodes
