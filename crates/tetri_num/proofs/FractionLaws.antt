-- Laws that crates above cite.
pub use Rattle.tetri_num.proofs.Checks.{value_within_some}
pub use Rattle.tetri_num.proofs.Common.{common-one, quotient_within, within_along}
pub use Rattle.tetri_num.proofs.Compares.{floor_above}
pub use Rattle.tetri_num.proofs.Fracs.{same_frac, value_representable}
pub use Rattle.tetri_num.proofs.Short.{at_side, number_is, same_bits, zero_den}
pub use Rattle.tetri_num.proofs.Values.{at_four, den-value, num-value, value-negated, value_is, within_negated}
pub use Rattle.tetri_num.proofs.Zeros.{checked_product-one_left, checked_product-one_right, checked_product-zero_left, checked_product-zero_right, checked_quotient-zero, checked_sum-zero_left, checked_sum-zero_right}
