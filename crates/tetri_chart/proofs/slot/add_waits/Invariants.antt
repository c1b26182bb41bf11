use Rattle.std.proofs.Common.{◌≡◌, ◌++◌, drop}
use Rattle.tetri_space.specs.Space.{space}
use Rattle.tetri_chart.specs.Waits.{waits_in}
use Rattle.tetri_chart.proofs.slot.add_waits.Given as goal

abbrev pub invariant-loop-grant : goal.invariant-loop-grant
invariant-loop-grant l = l.waits.items ++ waits_in (space l.inst) (drop l.grant-index l.grants) ≡ l.initial.waits.items ++ waits_in (space l.inst) l.grants
