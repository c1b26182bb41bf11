use Rattle.tetri_trace.specs.Scenario.{scenario}
use Rattle.tetri_chart.proofs.SameRunLemmas.{same_on}
use Rattle.tetri_chart.proofs.laws.pieces_are_those_of_states.Goals as goal

pub returns-clause-behind : goal.returns-clause-behind
returns-clause-behind c = λ s active b same. same_on (scenario c.args.trace.now) s active b same
