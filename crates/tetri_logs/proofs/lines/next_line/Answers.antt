use Rattle.std.proofs.Common.{◌<◌, length, arith}
use Rattle.tetri_logs.proofs.LineLemmas.{line_alone, line_at}
use Rattle.tetri_logs.proofs.lines.next_line.Goals as goal

pub returns-then-end-log-clause-lines : goal.returns-then-end-log-clause-lines
returns-then-end-log-clause-lines c = line_at c.args.log.now c.next_far-end.result (omega (arith, c.next_far-end.ensures)) (omega arith)

pub returns-else-end-log-clause-lines : goal.returns-else-end-log-clause-lines
returns-else-end-log-clause-lines c =
    let some : 0 < length c.args.log.now = grind (arith, c.is_empty.ensures, c.if-is_empty.false) in
    line_alone c.args.log.now some (omega (arith, c.next_far-end.ensures))
