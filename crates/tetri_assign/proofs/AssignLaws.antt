-- Laws that crates above cite.
pub use Rattle.tetri_assign.proofs.Law.{assigned_lawful, assigned_worth}
