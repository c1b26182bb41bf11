pub mod Names
pub mod Cluster
pub mod Sets
pub mod Tags
