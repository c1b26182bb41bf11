use Rattle.std.proofs.Common.{◌≡◌, drop}
use Rattle.std.specs.Prelude.{max}
use Rattle.tetri_chart.specs.Slots.{last_end}
use Rattle.tetri_chart.proofs.slots.last_end.Given as goal

abbrev pub invariant-loop-span : goal.invariant-loop-span
invariant-loop-span l = max l.end (last_end (drop l.span-index l.spans)) ≡ last_end l.spans
