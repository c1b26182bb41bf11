use Rattle.std.proofs.Common.{sym}
use Rattle.tetri_trace.proofs.LineLemmas.{header_first}
use Rattle.tetri_trace.proofs.lines.add_line.Goals as goal

pub returns-in-None-clause-gives : goal.returns-in-None-clause-gives
returns-in-None-clause-gives c =
    let first = header_first c.args.line.now c.args.next c.if-line-gt-LINE_MOST.false c.if-next-gt-TRACE_MOST.false (sym c.if-is_blank_line.ensures) in
    rw (c.in-None.is, first) c.begin.ensures.gives
