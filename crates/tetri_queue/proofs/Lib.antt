mod FromLemmas
mod SameLemmas
mod MoreLemmas
pub mod CountLemmas
pub mod ArrayLemmas
