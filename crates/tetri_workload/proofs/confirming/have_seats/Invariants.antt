use Rattle.std.proofs.Common.{◌≡◌, map, take}
use Rattle.tetri_trace.specs.Scenario.{submission}
use Rattle.tetri_workload.specs.Known.{AreKnown}
use Rattle.tetri_workload.specs.Saying.{nodes_asked, nodes_wanted}
use Rattle.tetri_workload.proofs.confirming.have_seats.Given as goal

abbrev pub invariant-loop-i : goal.invariant-loop-i
invariant-loop-i l = record {
  known : AreKnown l.nodes l.kinds;
  same : map (λ j. nodes_asked l.sets (submission j)) (take l.i l.jobs) ≡ map (nodes_wanted l.nodes) (take l.i l.wanted);
}
