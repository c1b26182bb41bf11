pub mod Head
pub mod Text
pub mod Exported
pub mod Taken
