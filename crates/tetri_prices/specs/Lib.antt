pub mod Capacities
pub mod Filling
pub mod Gain
pub mod Priced
pub mod Prices
pub mod steps
