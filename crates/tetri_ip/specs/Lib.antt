pub mod Points
pub mod Weighed
pub mod Forming
pub mod SamePrograms
