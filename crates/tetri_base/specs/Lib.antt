pub mod Answers
pub mod Lists
pub mod OptionSteps
pub mod Order
pub mod ResultSteps
