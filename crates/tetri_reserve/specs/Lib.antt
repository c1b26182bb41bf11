pub mod Wanted
pub mod Answers
pub mod Meaning
pub mod Laws
pub mod Book
