pub mod Ends
pub mod FirstPlaces
pub mod Machine
pub mod Outcomes
pub mod Faults
pub mod Turns
pub mod Certificates
pub mod Relaxation
