use Rattle.std.proofs.Common.{◌∙◌, ap}
use Rattle.tetri_state.specs.Planning.{instance_of}
use Rattle.tetri_trace.specs.Scenario.{scenario}
use Rattle.tetri_run.proofs.sight.begin_slot.Goals as goal

pub returns : goal.returns
returns c =
    let begun = c.in_ok-happened.ensures.state in
    record {
      state = begun;
      instance = c.in_ok-inst.ensures.instance ∙ ap (instance_of (scenario c.args.trace.now)) begun;
      happened = c.in_ok-happened.ensures.happened;
      sound = c.in_ok-inst.ensures.sound;
    }
