use Rattle.std.proofs.Common.{◌≡◌, List, sym, subst, true}
use Rattle.tetri_cluster.specs.Cluster.{names_of}
use Rattle.tetri_cluster.specs.Names.{differ}
use Rattle.tetri_cluster.specs.declared.cluster.NodeText.{NodeText}
use Rattle.tetri_trace.proofs.NamedApart.{apart_differ}
use Rattle.tetri_trace.proofs.header.cluster_of.Goals as goal

pub returns-in-Ok-clause-differ : goal.returns-in-Ok-clause-differ
returns-in-Ok-clause-differ c =
    subst (λ (nodes : List NodeText). differ (names_of nodes) ≡ true) (sym c.in-Ok.ensures.0) (apart_differ (names_of c.args.nodes.items) c.in-Ok.ensures.2)
