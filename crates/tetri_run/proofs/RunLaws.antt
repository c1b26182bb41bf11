-- Laws that crates above cite.
pub use Rattle.tetri_run.proofs.CheckLemmas.{cycles_in_order}
pub use Rattle.tetri_run.proofs.RunLemmas.{run_plans}
pub use Rattle.tetri_run.proofs.TopLemmas.{same_scenario}
