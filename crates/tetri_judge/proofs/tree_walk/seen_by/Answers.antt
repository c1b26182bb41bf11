use Rattle.tetri_judge.proofs.SeenLemmas.{walk_tells}
use Rattle.tetri_judge.proofs.tree_walk.seen_by.Goals as goal

pub returns : goal.returns
returns c = λ s marks is counted. walk_tells s marks c.args.over c.end.result c.args.nodes is (c.end.ensures c.args.over.program) counted
