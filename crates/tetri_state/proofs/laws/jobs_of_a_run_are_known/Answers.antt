use Rattle.tetri_trace.specs.Scenario.{scenario}
use Rattle.tetri_state.proofs.KnownLemmas.{begun_bids, occurring_known}
use Rattle.tetri_state.proofs.laws.jobs_of_a_run_are_known.Goals as goal

pub returns-clause-happened : goal.returns-clause-happened
returns-clause-happened c = λ s reached. occurring_known (scenario c.args.trace.now) c.requires s reached

pub returns-clause-pending : goal.returns-clause-pending
returns-clause-pending c = λ s reached. begun_bids (scenario c.args.trace.now) c.requires s reached
