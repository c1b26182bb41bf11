-- What private functions promise, step by step. No contract of a public function cites it.
pub mod Places
pub mod Values
