-- Laws that crates above cite.
pub use Rattle.tetri_dictionary.proofs.Dots.{dot-negated, dot-set_both, negated, plus_scaled}
pub use Rattle.tetri_dictionary.proofs.EachPlace.{each_get, each_length}
pub use Rattle.tetri_dictionary.proofs.Entries.{map_push, value_at_place}
pub use Rattle.tetri_dictionary.proofs.Forming.{drop_past, onto, onto_more, onto_nil, then_ok_is}
pub use Rattle.tetri_dictionary.proofs.LeastRatio.{IsLeast, entering_is, ratio_at, signs_kept}
pub use Rattle.tetri_dictionary.proofs.Numbers.{number_read}
pub use Rattle.tetri_dictionary.proofs.PivotKeeps.{Solves, above_within, checked_product_is, checked_sum_is, or_place_is, other, pivot_keeps, put_set, recip_mul, replaced_is, rows_values, solved_is, then_ok_pair, values_at}
pub use Rattle.tetri_dictionary.proofs.Signs.{AtMost, NotBelow, add_not_below, le_cancel, mul_not_below, not_above, times_not_below, whole_not_below, zero_not_below}
