pub mod Signed
pub mod FollowLemmas
pub mod CountLemmas
pub mod FairLemmas
pub mod LoopLemmas
pub mod StepLemmas
pub mod FoundLemmas
pub mod FrontLemmas
