use Rattle.std.proofs.Common.{length, subst}
use Rattle.tetri_cluster.specs.Sets.{HaveNodesBelow}
use Rattle.tetri_parse.specs.Reader.{NamedSets}
use Rattle.tetri_parse.proofs.reader.ClusterReader.read_set.Goals as goal

pub returns-clause-within : goal.returns-clause-within
returns-clause-within c =
    subst (λ (s : NamedSets). HaveNodesBelow (length s.nodes) s.sets → HaveNodesBelow (length s.nodes) c.read_noting_set.new.sets) c.self.view_is c.read_noting_set.ensures.within
