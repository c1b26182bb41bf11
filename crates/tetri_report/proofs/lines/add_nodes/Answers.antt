use Rattle.std.proofs.Common.{◌≡◌, ◌<◌, ◌∷◌, All, subst, length, ℕ}
use Rattle.std.proofs.lemmas.List.Elements.{All-tail}
use Rattle.tetri_report.proofs.lines.add_nodes.Goals as goal

pub name_of-requires-in-loop-node : goal.name_of-requires-in-loop-node
name_of-requires-in-loop-node c =
    let here = λ (n : ℕ). n < length c.args.cluster.now in
    let cut : c.args.nodes.now ≡ c.in-Some.first.now ∷ c.in-Some.others.now = c.in-Some.ensures.cases.0 in
    All-tail here c.in-Some.first.now c.in-Some.others.now (subst (All here) cut c.requires) c.loop-node.node-index 0 c.loop-node-test.true
