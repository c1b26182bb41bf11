pub mod Cuts
pub mod Sums
pub mod Breaking
pub mod Tightening
