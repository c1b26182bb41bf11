use Rattle.std.proofs.Common.{subst}
use Rattle.tetri_judge.specs.Seen.{WalksWhereOneMay}
use Rattle.tetri_judge.proofs.SeenLemmas.{walks_on}
use Rattle.tetri_judge.proofs.tree_walk.feed_walk.Goals as goal

pub returns-in_ok-feed-in-Some : goal.returns-in_ok-feed-in-Some
returns-in_ok-feed-in-Some c = λ s marks is.
    walks_on s marks c.args.mark.now c.in-Some.over c.feed.new.self (subst (WalksWhereOneMay s marks) c.in-Some.is is) c.in_ok-feed-in-Some.ensures.over c.in_ok-feed-in-Some.ensures.ok
    c.in_ok-feed-in-Some.ensures.node
