use Rattle.std.proofs.Common.{◌≡◌, ◌++◌, take}
use Rattle.std.specs.Prelude.{flat_map}
use Rattle.tetri_workload.specs.Partitions.{host_line}
use Rattle.tetri_workload.proofs.partitions.add_lines.Given as goal

abbrev pub invariant-loop-host : goal.invariant-loop-host
invariant-loop-host l = l.lines.items ≡ l.initial.lines.items ++ flat_map (host_line l.partition) (take l.host-index l.hosts)
