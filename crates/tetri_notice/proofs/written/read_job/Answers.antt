use Rattle.std.proofs.Common.{refl}
use Rattle.tetri_notice.proofs.WrittenLemmas.{reads_object}
use Rattle.tetri_notice.specs.Written.{job_members}
use Rattle.tetri_notice.proofs.written.read_job.Goals as goal

pub returns-then-is_empty : goal.returns-then-is_empty
returns-then-is_empty c =
    reads_object c.args.text.now (job_members c.in_ok-job.job) c.new-reader.result c.opens.new.self c.job.new.reader c.new-reader.ensures c.in_ok-opens.ensures c.in_ok-job.ensures (c.if-is_empty.ensures refl)
