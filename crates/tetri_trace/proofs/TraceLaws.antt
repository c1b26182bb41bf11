-- Laws that crates above cite.
pub use Rattle.tetri_trace.proofs.SoundLemmas.{arrive_on_time, header_sound, submission_sound, with_job_sound, with_sets_sound}
