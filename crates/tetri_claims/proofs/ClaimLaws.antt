-- Laws that crates above cite.
pub use Rattle.tetri_claims.proofs.CertifiedLemmas.{certificates_bound, one_answer, one_bound, says_same}
pub use Rattle.tetri_claims.proofs.ProgramLemmas.{programs_earn_little}
