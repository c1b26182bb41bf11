-- Laws that crates above cite.
pub use Rattle.tetri_greedy.proofs.Marks.{length-all_marked, tells_all, tells_none}
pub use Rattle.tetri_greedy.proofs.ServingLemmas.{good_leaves, holdable}
