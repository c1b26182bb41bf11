pub mod Charge
pub mod Factors
pub mod Charged
pub mod Marks
