pub mod Weights
pub mod Nodes
pub mod Follow
pub mod Fronts
pub mod Branches
pub mod Found
pub mod Exact
