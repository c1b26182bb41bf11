-- The trace that a header begins.
use Rattle.std.proofs.Common.{◌≡◌, List, refl, Ok, ok_or}
use Rattle.tetri_cluster.specs.Cluster.{names_of}
use Rattle.tetri_cluster.specs.declared.cluster.NodeText.{NodeText}
use Rattle.tetri_notice.specs.Answers.{Stops}
use Rattle.tetri_notice.specs.Headers.{HeaderText}
use Rattle.tetri_notice.specs.declared.fault.Stop.{Stop}
use Rattle.tetri_notice.specs.declared.fault.Stop.TheVariants as stops
use Rattle.tetri_notice.specs.declared.fault.TraceWhy.TheVariants.{NoSuchNode}
use Rattle.tetri_space.specs.declared.closure.Closure.{Closure}
use Rattle.tetri_trace.specs.Closures.{closures_at}
use Rattle.tetri_trace.specs.Lines.{begun, named_apart}
use Rattle.tetri_trace.specs.Scenario.{without_events}

pub begins : (h : HeaderText) (nodes : List NodeText) (closures : List Closure) → named_apart h.nodes ≡ Ok nodes → ok_or (closures_at (names_of nodes) h.closures) NoSuchNode ≡ Ok closures → begun h ≡ Ok (without_events h.header nodes closures)
unfolding begun
begins h nodes closures e f = rw (e, f) refl

pub stops_at_nodes : (h : HeaderText) (stop : Stop) → Stops stop (named_apart h.nodes) → Stops stop (begun h)
unfolding begun
stops_at_nodes h (stops.Because why) e = rw e refl
stops_at_nodes h stops.NoMemory e = tt

pub stops_at_closures : (h : HeaderText) (nodes : List NodeText) (stop : Stop) → named_apart h.nodes ≡ Ok nodes → Stops stop (ok_or (closures_at (names_of nodes) h.closures) NoSuchNode) → Stops stop (begun h)
unfolding begun
stops_at_closures h nodes (stops.Because why) e f = rw (e, f) refl
stops_at_closures h nodes stops.NoMemory e f = tt
