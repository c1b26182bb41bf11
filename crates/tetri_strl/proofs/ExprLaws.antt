-- Laws of expressions, allotments and worths that crates above cite.
pub use Rattle.tetri_strl.proofs.GrantLemmas.{granted-append, granted-others, leaf_worth-none, NamesNot, worth_by-same, worth_of-append_left, worth_of-append_right, worth_of-none}
pub use Rattle.tetri_strl.proofs.GrantedWorth.{granted_worth}
pub use Rattle.tetri_strl.proofs.OneStart.{Begins, one_held_start}
pub use Rattle.tetri_strl.proofs.PartsApart.{across_pairs, apart_of_pairs, AreApart, AreApartOf, left_pairs, right_pairs, the_one}
pub use Rattle.tetri_strl.proofs.PruneLemmas.{each_nothing, IsNothing, pruned_keeps_worth, pruned_worth}
pub use Rattle.tetri_strl.proofs.ThriftOfOthers.{thrifty-append_left, thrifty-append_right, thrifty_of-members, thrifty_of-same}
pub use Rattle.tetri_strl.proofs.ThriftyLemmas.{right_bare}
pub use Rattle.tetri_strl.proofs.TreeLemmas.{tree-Barrier, tree-Max, tree-Min, tree-One, tree-Scale, tree-Sum}
pub use Rattle.tetri_strl.proofs.TrimOfOthers.{filter-both, trimmed-append_left, trimmed-append_right, trimmed_of_job}
pub use Rattle.tetri_strl.proofs.TrimThrift.{trimmed_thrifty, ungranted, waste_is_exact}
pub use Rattle.tetri_strl.proofs.TrimWorth.{trimmed_worth}
pub use Rattle.tetri_strl.proofs.WorthLemmas.{AreBelow, each_good, EachLeaf-both, EachLeaf-from, eq_from_test, leaf_top_le, leaf_worth_le, worth_at-none, worth_at_le, worth_by-le, worth_le_limit, worth_le_peak}
