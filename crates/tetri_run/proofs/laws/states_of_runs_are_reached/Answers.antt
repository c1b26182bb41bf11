use Rattle.tetri_run.specs.Run.{AnyLists}
use Rattle.tetri_run.proofs.AdvisedLemmas.{any_run}
use Rattle.tetri_run.proofs.RunLemmas.{run_begins, run_of, run_reaches}
use Rattle.tetri_run.proofs.laws.states_of_runs_are_reached.Goals as goal

pub returns-clause-between : goal.returns-clause-between
returns-clause-between c = run_reaches

pub returns-clause-begun : goal.returns-clause-begun
returns-clause-begun c = run_begins

pub returns-clause-planned : goal.returns-clause-planned
returns-clause-planned c = run_of AnyLists

pub returns-clause-advised : goal.returns-clause-advised
returns-clause-advised c = any_run
