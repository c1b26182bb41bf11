use Rattle.std.proofs.Common.{◌≡◌, drop}
use Rattle.tetri_logs.specs.Swf.{is_comment}
use Rattle.tetri_logs.proofs.swf.is_comment.Given as goal

abbrev pub invariant-loop-b : goal.invariant-loop-b
invariant-loop-b l = is_comment l.line ≡ is_comment (drop l.b-index l.line)
