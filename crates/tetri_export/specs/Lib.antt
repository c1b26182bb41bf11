pub mod Lp
pub mod Plain
pub mod Mps
pub mod Lines
pub mod Format
