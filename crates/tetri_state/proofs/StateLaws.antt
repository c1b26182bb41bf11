-- Laws that crates above cite.
pub use Rattle.tetri_state.proofs.Ascending.{each_from}
pub use Rattle.tetri_state.proofs.BeginLemmas.{filter_both, len_is}
pub use Rattle.tetri_state.proofs.InstanceLemmas.{instance_sound}
pub use Rattle.tetri_state.proofs.KnownLemmas.{begun_bids, occurring_known}
pub use Rattle.tetri_state.proofs.ReachedLemmas.{begin_reached, early_begun, stands_begun}
pub use Rattle.tetri_state.proofs.ReadyLemmas.{found_for}
pub use Rattle.tetri_state.proofs.RunOnLemmas.{told_runs}
