use Rattle.std.proofs.Common.{◌∷◌, [], ap, arith}
use Rattle.std.proofs.lemmas.List.{length-append}
use Rattle.tetri_cert.specs.Trees.{nodes_in}
use Rattle.tetri_judge.proofs.SeenLemmas.{nodes_few, nodes_in-append}
use Rattle.tetri_judge.proofs.tree_walk.TreeWalk.feed.Goals as goal

pub feed_walk-requires : goal.feed_walk-requires
feed_walk-requires c =
    let walks = c.requires.walks in
    (walks.0, walks.1, walks.2.walk, omega (arith, walks.2.fed, c.requires.room))

pub overflow_add-self-2 : goal.overflow_add-self-2
overflow_add-self-2 c =
    let walks = c.requires.walks in
    omega (arith, walks.2.fed, walks.2.nodes, c.requires.room, nodes_few walks.1, nodes_few (c.args.mark.now ∷ []), c.count_nodes.ensures, ap nodes_in c.from_ref.ensures.value)

pub returns-clause-walks : goal.returns-clause-walks
returns-clause-walks c = λ s marks is. record {
  fed = omega (arith, is.fed, length-append marks (c.args.mark.now ∷ []));
  nodes = omega (arith, is.nodes, nodes_in-append marks c.args.mark.now, c.count_nodes.ensures, ap nodes_in c.from_ref.ensures.value);
  walk = c.in_ok-feed_walk.ensures s marks is.walk;
}
