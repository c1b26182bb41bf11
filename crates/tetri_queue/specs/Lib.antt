pub mod Asking
pub mod Worths
pub mod Arrays
pub mod Queues
pub mod Orders
