use Rattle.std.proofs.Common.{Ok}
use Rattle.tetri_trace.proofs.LineLemmas.{given_some}
use Rattle.tetri_trace.specs.Draft.{so_far}
use Rattle.tetri_trace.specs.Lines.{header_line}
use Rattle.tetri_trace.proofs.lines.begin.Goals as goal

pub returns-clause-gives : goal.returns-clause-gives
returns-clause-gives c = given_some so_far (Ok c.in_ok-header_line.field-0) (header_line c.args.line.now) c.in_ok-header_line.ensures.gives
