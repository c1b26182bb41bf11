pub mod Asked
pub mod Consulted
pub mod Creeds
pub mod Fit
pub mod Heard
pub mod Seat
pub mod Sitting
pub mod Verdict
