use Rattle.std.proofs.Common.{◌≡◌, ◌+◌, ◌≤◌, ◌++◌, length}
use Rattle.tetri_base.specs.Lists.{count}
use Rattle.tetri_logs.specs.Reading.{entries, facts_in, is_comment, jobs_in, left_in, no_facts}
use Rattle.tetri_logs.proofs.reading.read_lines.Given as goal

abbrev pub invariant-loop-walk : goal.invariant-loop-walk
invariant-loop-walk l =
    let rest = l.walk.entries in
    let all = entries l.fn.mixed l.fn.format l.fn.log in
    record {
      jobs : l.read.jobs.items ++ jobs_in rest ≡ jobs_in all;
      left : l.read.left.items ++ left_in rest ≡ left_in all;
      facts : facts_in l.read.facts rest ≡ facts_in no_facts all;
      comments : l.read.comments + count is_comment rest ≡ count is_comment all;
      few : l.read.comments + l.walk.bytes ≤ length l.fn.log;
    }

abbrev pub decreases-loop-walk : goal.decreases-loop-walk
decreases-loop-walk l = l.walk.bytes
