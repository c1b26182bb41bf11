-- Laws that crates above cite.
pub use Rattle.tetri_split.proofs.PartLemmas.{bounds_add}
pub use Rattle.tetri_split.proofs.RestrictedLemmas.{bid_worth-kept, grants_name_kept, lawful-kept, lawful-whole, sound-kept}
pub use Rattle.tetri_split.proofs.RestrictingLemmas.{found_list, job_more}
