-- What a log says as it is read line by line.
use Rattle.std.proofs.Common.{◌≡◌, ◌+◌, List, length, ap, arith}
use Rattle.std.specs.Prelude.{Result, Ok, Err, IfOk}
use Rattle.tetri_base.specs.Lists.{count}
use Rattle.tetri_logs.specs.declared.entry.Entry.{Entry}
use Rattle.tetri_logs.specs.declared.reading.Log.{Log}
use Rattle.tetri_logs.specs.Reading.{is_comment, jobs_in, left_in}
use Rattle.tetri_logs.proofs.LogLaws.{all_entries}

-- each entry of a log that is read is a job, a comment or left out
pub whole : {E : Type 0} (es : List Entry) (r : Result Log E) → IfOk r (λ l. l.jobs.items ≡ jobs_in es) → IfOk r (λ l. l.left.items ≡ left_in es) → IfOk r (λ l. l.comments ≡ count is_comment es)
    → IfOk r (λ l. length l.jobs.items + length l.left.items + l.comments ≡ length es)
whole es (Ok l) jobs left comments = omega (arith, ap length jobs, ap length left, comments, all_entries es)
whole es (Err e) jobs left comments = tt
