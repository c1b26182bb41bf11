-- Laws that crates above cite.
pub use Rattle.tetri_cert.proofs.CellFacts.{cells_of-columns, cells_of-length, cells_of-plain, frac_cells_of-length, frac_cells_of-plain, point_of-cells_of}
pub use Rattle.tetri_cert.proofs.TextBack.{node_avoids, text_joined, words_back}
pub use Rattle.tetri_cert.proofs.TextShort.{short}
