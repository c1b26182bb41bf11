use Rattle.tetri_trace.specs.Scenario.{scenario}
use Rattle.tetri_programs.proofs.cycle.pass_slot.Goals as goal

pub returns-clause-reached : goal.returns-clause-reached
returns-clause-reached g c =
    c.apply.ensures.reached (scenario c.args.trace.now) c.in_ok-plan.plan.grants c.in_ok-_happened.ensures.reached c.in_ok-prepared.ensures.launch
