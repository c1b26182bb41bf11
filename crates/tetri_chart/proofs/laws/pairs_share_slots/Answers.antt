use Rattle.tetri_trace.specs.Scenario.{scenario}
use Rattle.tetri_chart.proofs.ShareLemmas.{shared_end}
use Rattle.tetri_chart.proofs.laws.pairs_share_slots.Goals as goal

pub returns-clause-end : goal.returns-clause-end
returns-clause-end c = λ v p q. shared_end (scenario c.args.trace.now) v p q
