use Rattle.tetri_split.proofs.LabelLemmas.{merged_joined}
use Rattle.tetri_split.proofs.labels.join_node.Goals as goal

pub returns-in-Some-clause-joined : goal.returns-in-Some-clause-joined
returns-in-Some-clause-joined c r earlier has =
    merged_joined c.args.labels.now c.in-Some.first c.args.node c.merge.new.labels c.merge.ensures r
    (c.requires.earlier c.in-Some.first c.in-Some.is) c.requires.node (earlier c.in-Some.first c.in-Some.is) has
