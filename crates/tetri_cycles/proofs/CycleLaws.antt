-- Laws that crates above cite.
pub use Rattle.tetri_cycles.proofs.ObserveLemmas.{behind_last, observed_last}
pub use Rattle.tetri_cycles.proofs.RunLemmas.{append_known-nil, now_behind, summary_is}
pub use Rattle.tetri_cycles.proofs.ToldLemmas.{between_of, stopped_of, wrote_of}
