pub mod Ascii
pub mod ClusterLaws
pub mod NameTables
pub mod NamesBack
pub mod Repeats
pub mod SetsAdded
pub mod TagLists
