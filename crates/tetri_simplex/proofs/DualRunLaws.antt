-- Laws that crates above cite.
pub use Rattle.tetri_simplex.proofs.EndFacts.{machine_certified}
pub use Rattle.tetri_dictionary.proofs.DictionaryLaws.{number_read, checked_product_is, checked_sum_is}
pub use Rattle.tetri_simplex.proofs.RelaxedPoints.{floor_between, whole_point, worth_same}
