use Rattle.std.proofs.Common.{◌≤◌, ◌*◌, ◌^◌, take}
use Rattle.tetri_space.specs.Space.{space}
use Rattle.tetri_trace.specs.Scenario.{scenario}
use Rattle.tetri_commands.specs.PartsReady.{ArePartsReady}
use Rattle.tetri_commands.proofs.planning.plan_parts.Given as goal

abbrev pub invariant-loop-part : goal.invariant-loop-part
invariant-loop-part l = record {
  ready : ArePartsReady (scenario l.trace) (space l.inst) l.carry (take l.part l.parts) l.text.items l.grants.items l.value l.bound;
  small_value : l.value ≤ l.part * 2 ^ 64;
  small_bound : l.bound ≤ l.part * 2 ^ 64;
}
