use Rattle.std.proofs.Common.{◌≡◌, ◌++◌, map, take, drop, vec_len}
use Rattle.tetri_workload.specs.Kinds.{settled}
use Rattle.tetri_workload.specs.Known.{AreKnown}
use Rattle.tetri_workload.proofs.kinds.Kinds.settle_each.Given as goal

abbrev pub invariant-loop-i : goal.invariant-loop-i
invariant-loop-i l = record {
  known : AreKnown l.nodes l.self;
  same : l.jobs.items ≡ map (settled l.nodes) (take l.i l.initial.jobs.items) ++ drop l.i l.initial.jobs.items;
  count : vec_len l.jobs ≡ vec_len l.initial.jobs;
}
