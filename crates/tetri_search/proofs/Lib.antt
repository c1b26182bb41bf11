pub mod Signed
pub mod MarkLemmas
pub mod SplitLemmas
pub mod WorkedLemmas
pub mod NodeLemmas
pub mod ProperLemmas
pub mod CountLemmas
pub mod SpentLemmas
pub mod PlainLemmas
pub mod LoopLemmas
pub mod LastLemmas
pub mod StepLemmas
mod Examples
pub mod RiseLemmas
pub mod SameLemmas
pub mod SearchLaws
