use Rattle.tetri_workload.specs.Text.{run_text}
use Rattle.tetri_workload.proofs.text.write_run.Goals as goal

pub returns : goal.returns
unfolding run_text
returns c = c.write.ensures.bytes
