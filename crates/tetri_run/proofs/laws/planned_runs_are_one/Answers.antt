use Rattle.tetri_run.proofs.OneRun.{one_run}
use Rattle.tetri_run.proofs.laws.planned_runs_are_one.Goals as goal

pub returns : goal.returns
returns c = λ cs t past others run runs as_long. one_run t cs past others run runs as_long
