-- Laws of instances, lawful allotments and partitions that crates above cite.
pub use Rattle.tetri_space.proofs.AllotmentLemmas.{lawful_in_order, lawful_trimmed, ordered_in_order, thrifty_in_order, thrifty_trimmed, total_in_order, total_trimmed}
pub use Rattle.tetri_space.proofs.BidLemmas.{bid_has, later_jobs, next_bid}
pub use Rattle.tetri_space.proofs.ClosedFacts.{available_is}
pub use Rattle.tetri_space.proofs.FindingLemmas.{list_is}
pub use Rattle.tetri_space.proofs.FreeLemmas.{count_next, free_decides, idle_later, throughout_decides}
pub use Rattle.tetri_space.proofs.GroupLemmas.{filter-same, range_next, range_push}
pub use Rattle.tetri_space.proofs.LawLemmas.{dead_granted, total_le_tops}
pub use Rattle.tetri_space.proofs.LawfulLemmas.{AllPairs-append, IsLawful-append, IsLawful-filter}
pub use Rattle.tetri_space.proofs.LeafLemmas.{find-by_key, find-within, IsOffered, leaf_in-found, leaf_in-within}
pub use Rattle.tetri_space.proofs.PartitionLemmas.{alike_sym, alike_trans, covered}
pub use Rattle.tetri_space.proofs.PartsLemmas.{filter_shorter, live_within}
pub use Rattle.tetri_space.proofs.PrunedLemmas.{AllLeavesOf, AreFrom, AreIn, asked_has, bids_left-shorter, each_left_of, in_map, IsGood, IsLeafOf, IsLeftOf, IsLess, IsSmaller, left_leaves, left_numbers, left_numbers_of, left_smaller, left_sound, lefts_good, lefts_jobs, lefts_leaves, of_bar, of_join, of_scale, OfLeft, OtherJob, sets_in_has}
pub use Rattle.tetri_space.proofs.RuleLemmas.{broken_first, first_broken_same, lawful_keeps}
pub use Rattle.tetri_space.proofs.SearchLemmas.{EachLeaf-at, found_bid, offered_leaf, searched_bid}
pub use Rattle.tetri_space.proofs.SlotLemmas.{and_left, and_right, bit_of_meeting, IsInWindow, length-marked, marked_meets, meets_at, meets_overlap, none_meets, slots_bound}
pub use Rattle.tetri_space.proofs.SpanLemmas.{all_of, each_of}
pub use Rattle.tetri_space.proofs.StableLemmas.{filter-in_order, same_stably}
pub use Rattle.tetri_space.proofs.TotalLemmas.{tops_limit, total_limit}
