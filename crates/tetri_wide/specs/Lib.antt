pub mod Sketch
pub mod Entries
