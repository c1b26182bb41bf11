-- What private functions promise, step by step. No contract of a public function cites it.
pub mod Finding
pub mod Front
