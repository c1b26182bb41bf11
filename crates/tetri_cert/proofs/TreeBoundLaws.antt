-- Laws that crates above cite.
pub use Rattle.tetri_cert.proofs.Covers.{tree_bound_holds}
pub use Rattle.tetri_cert.proofs.FaultLemmas.{faults_name_nodes}
pub use Rattle.tetri_cert.proofs.PointLemmas.{in_program_box}
pub use Rattle.tetri_cert.proofs.ProperTreeLemmas.{bounds_proper_trees, IsSound, node_told}
pub use Rattle.tetri_cert.proofs.RegionLemmas.{high_in_box, low_in_box}
pub use Rattle.tetri_cert.proofs.SameLemmas.{box_same, same_programs, weigh_same}
