-- Laws that crates above cite.
pub use Rattle.tetri_chart.proofs.SpanLemmas.{tells_pieces}
