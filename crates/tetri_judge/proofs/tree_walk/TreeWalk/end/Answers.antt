use Rattle.std.proofs.Common.{subst}
use Rattle.tetri_judge.specs.Seen.{WalksWhereOneMay}
use Rattle.tetri_judge.proofs.tree_walk.TreeWalk.end.Goals as goal

pub returns-in-Some : goal.returns-in-Some
returns-in-Some c = λ s marks is. c.seen_by.ensures s marks (subst (WalksWhereOneMay s marks) c.in-Some.is is.walk) is.nodes
