use Rattle.tetri_run.specs.Run.{AnyLists}
use Rattle.tetri_run.proofs.AdvisedLemmas.{run_begins_within}
use Rattle.tetri_run.proofs.laws.searches_begin_within_the_value.Goals as goal

pub returns : goal.returns
returns c = λ t past b sound run. run_begins_within t sound AnyLists past b run
