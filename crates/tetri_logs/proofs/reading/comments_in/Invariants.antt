use Rattle.std.proofs.Common.{◌≡◌, ◌+◌, ◌≤◌, drop}
use Rattle.tetri_base.specs.Lists.{count}
use Rattle.tetri_logs.specs.Reading.{is_comment}
use Rattle.tetri_logs.proofs.reading.comments_in.Given as goal

abbrev pub invariant-loop-entry : goal.invariant-loop-entry
invariant-loop-entry l = record { same : l.count + count is_comment (drop l.entry-index l.entries) ≡ count is_comment l.entries; few : l.count ≤ l.entry-index }
