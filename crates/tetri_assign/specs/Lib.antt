pub mod Assigned
pub mod Granting
pub mod steps
