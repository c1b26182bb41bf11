use Rattle.tetri_notice.proofs.WrittenLemmas.{said_by}
use Rattle.tetri_notice.proofs.written.written_event.Goals as goal

pub returns-then-ends_with-clause-value : goal.returns-then-ends_with-clause-value
returns-then-ends_with-clause-value c = said_by c.args.unit c.args.line.now c.in-Ok.text.now c.arrival.result c.in-Ok.ensures.cases.1 c.in-Ok.ensures.cases.0 c.arrival.ensures.value

pub returns-else-ends_with-clause-value : goal.returns-else-ends_with-clause-value
returns-else-ends_with-clause-value c = said_by c.args.unit c.args.line.now c.in-Ok.text.now c.cancellation.result c.in-Ok.ensures.cases.1 c.in-Ok.ensures.cases.0 c.cancellation.ensures.value
