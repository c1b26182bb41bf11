use Rattle.tetri_state.proofs.StateLaws.{begun_bids}
use Rattle.tetri_trace.specs.Scenario.{scenario}
use Rattle.tetri_commands.proofs.PrintLaws.{instances_of_trace}
use Rattle.tetri_commands.proofs.answering.first_instance.Goals as goal

pub returns-clause-of_trace : goal.returns-clause-of_trace
returns-clause-of_trace c =
    let t = scenario c.args.trace.now in
    let s = c.begin_cycle.new.self in
    instances_of_trace t s c.instance.result (begun_bids t c.requires s c.in_ok-begin_cycle.ensures.reached) c.instance.ensures.instance c.instance.ensures.sound
