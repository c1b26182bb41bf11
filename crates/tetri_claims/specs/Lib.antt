pub mod Planned
pub mod Good
pub mod Certified
pub mod Laws
