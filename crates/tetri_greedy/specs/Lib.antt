pub mod Fitted
pub mod Held
pub mod Order
pub mod Served
