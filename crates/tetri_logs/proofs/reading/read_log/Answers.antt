use Rattle.tetri_logs.specs.Reading.{entries}
use Rattle.tetri_logs.proofs.ReadingLemmas.{whole}
use Rattle.tetri_logs.proofs.reading.read_log.Goals as goal

pub returns-clause-whole : goal.returns-clause-whole
returns-clause-whole c =
    whole (entries c.args.mixed c.args.format c.args.log.now) c.read_lines.result c.read_lines.ensures.jobs c.read_lines.ensures.left c.read_lines.ensures.comments
