pub mod LeftLemmas
pub mod PolicyLemmas
pub mod RunLemmas
pub mod StartLemmas
pub mod StepLemmas
pub mod TurnLemmas
