-- Of programs, their walks and their points: what crates above may cite.
pub use Rattle.tetri_compile.proofs.CompileLemmas.{compiled_is_fit, draft_small, sound_bids}
pub use Rattle.tetri_compile.proofs.CountLemmas.{counts_are}
pub use Rattle.tetri_compile.proofs.FairLemmas.{Each-has, free_below, good, granted_few, granted_total, HoldsApart, IsFair, IsRightFor, le_from_test, lt_from_test, supply_le, worth_of_bids}
pub use Rattle.tetri_compile.proofs.FitLemmas.{program_fit}
pub use Rattle.tetri_compile.proofs.FlatLemmas.{at_column, flat_met, flat_objective, meets_to, RowsMet}
pub use Rattle.tetri_compile.proofs.FormLemmas.{AreMet-split, at_point-append, at_point-run, at_point-times, Within-split}
pub use Rattle.tetri_compile.proofs.GainFacts.{region_gain}
pub use Rattle.tetri_compile.proofs.GainLemmas.{bid_uppers_small}
pub use Rattle.tetri_compile.proofs.GrantLemmas.{any_which, held_le_free, IsOnRight, IsSpread, ShareNone, shares_le, spread, suits_some}
pub use Rattle.tetri_compile.proofs.KidLemmas.{kids_next}
pub use Rattle.tetri_compile.proofs.LawLemmas.{allotment_has_point}
pub use Rattle.tetri_compile.proofs.LawfulLemmas.{fair, goods, live_total, other_jobs}
pub use Rattle.tetri_compile.proofs.NumberLemmas.{all_of}
pub use Rattle.tetri_compile.proofs.OutlineLemmas.{inside_below, top_is_best}
pub use Rattle.tetri_compile.proofs.RoomLemmas.{each_list}
pub use Rattle.tetri_compile.proofs.SlotLemmas.{any_in_range, none_in_range, none_of}
pub use Rattle.tetri_compile.proofs.TallyLemmas.{IsOf, number_of, number_of_all, tallies_leaf, tallies_leaf_of, tallies_other}
pub use Rattle.tetri_compile.proofs.WalkLemmas.{IsBelowEach}
pub use Rattle.tetri_compile.proofs.WidthLemmas.{bids_ready}
