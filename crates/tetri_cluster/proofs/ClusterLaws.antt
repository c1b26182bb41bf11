-- Laws that crates above cite.
pub use Rattle.tetri_cluster.proofs.NameTables.{list_any_map, position_map}
pub use Rattle.tetri_cluster.proofs.NamesBack.{name_avoids, number_back}
pub use Rattle.tetri_cluster.proofs.SetsAdded.{search_finds}
