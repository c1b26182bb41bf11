pub mod Lowest
pub mod Forms
pub mod Frac
pub mod Checked
