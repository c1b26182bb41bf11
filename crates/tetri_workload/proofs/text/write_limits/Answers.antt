use Rattle.tetri_workload.specs.Text.{limits_text}
use Rattle.tetri_workload.proofs.text.write_limits.Goals as goal

pub returns : goal.returns
unfolding limits_text
returns c = c.write.ensures.bytes
