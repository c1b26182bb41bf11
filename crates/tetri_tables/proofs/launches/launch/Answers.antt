use Rattle.tetri_trace.specs.Scenario.{scenario}
use Rattle.tetri_tables.proofs.launches.launch.Goals as goal

pub returns : goal.returns
returns c = c.apply.ensures.reached (scenario c.args.trace.now) c.in_ok-plan.plan c.requires.reached c.in_ok-prepared.ensures.launch
