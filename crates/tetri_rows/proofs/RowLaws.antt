-- Laws that crates above cite.
pub use Rattle.tetri_rows.proofs.Bounds.{fraction_le}
pub use Rattle.tetri_rows.proofs.Meanings.{zero_fraction}
pub use Rattle.tetri_rows.proofs.RowSigns.{from_test, negative_number, not_zero_number, positive_number, same_test, test_of, zero_number}
pub use Rattle.tetri_rows.proofs.SmallRows.{negative_of_small, product_of_small, quotient_of_small, small_numbers, small_whole, sum_of_small}
pub use Rattle.tetri_rows.proofs.Solved.{fraction_not_zero, neg_of_fraction, solved_is}
pub use Rattle.tetri_rows.proofs.Words.{product_below, product_word, short_word, test_above, test_short, wide_word, word}
