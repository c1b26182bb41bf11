-- What private functions promise, step by step. No contract of a public function cites it.
pub mod Entries
pub mod Room
pub mod Walked
