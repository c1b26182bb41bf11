pub mod Table
pub mod Follow
pub mod Nodes
pub mod Laws
pub mod Views
