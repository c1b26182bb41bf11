pub mod PipeShelf
pub mod Whole
