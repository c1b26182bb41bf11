-- Laws that crates above cite.
pub use Rattle.tetri_notice.proofs.Options.{some_from_ok, stops_first, stops_none}
