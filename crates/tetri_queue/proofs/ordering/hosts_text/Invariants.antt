use Rattle.std.proofs.Common.{◌≡◌, ◌<◌, length, string_bytes, take}
use Rattle.std.specs.Prelude.{All}
use Rattle.tetri_queue.specs.Orders.{hosts_text}
use Rattle.tetri_queue.proofs.ordering.hosts_text.Given as goal

abbrev pub invariant-loop-node : goal.invariant-loop-node
invariant-loop-node l = record { known : All (λ node. node < length l.cluster) (take l.node-index l.nodes); text : string_bytes l.hosts ≡ hosts_text l.cluster (take l.node-index l.nodes) }
