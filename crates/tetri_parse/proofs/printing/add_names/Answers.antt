use Rattle.std.proofs.Common.{arith, ◌≡◌, ◌<◌, ◌∷◌, All, subst, sym, true, take, get_or, length, ℕ}
use Rattle.std.proofs.lemmas.Grind.{common_steps}
use Rattle.std.proofs.lemmas.List.{take_more}
use Rattle.std.proofs.lemmas.List.Elements.{All-tail, All-push}
use Rattle.tetri_cluster.specs.Names.{is_name}
use Rattle.tetri_cluster.specs.Cluster.{name_at}
use Rattle.tetri_parse.proofs.printing.add_names.Goals as goal

pub name_of-requires-in-loop-node : goal.name_of-requires-in-loop-node
name_of-requires-in-loop-node c =
    let here = λ (n : ℕ). n < length c.args.cluster.now in
    let cut : c.args.nodes.now ≡ c.in-Some.first.now ∷ c.in-Some.others.now = c.in-Some.ensures.cases.0 in
    All-tail here c.in-Some.first.now c.in-Some.others.now (subst (All here) cut c.requires) c.loop-node.node-index 0 c.loop-node-test.true

pub loop-node-preserved : goal.loop-node-preserved
loop-node-preserved c = record {
  so_far = grind (arith, common_steps);
  named =
      let others = c.in-Some.others.now in
      let i = c.loop-node.node-index in
      let is_named = λ (n : ℕ). is_name (name_at c.args.cluster.now n) ≡ true in
      let here : is_named (get_or others i 0) = subst (λ name. is_name name ≡ true) c.name_of-in-loop-node.ensures c.text-name.ensures.name in
      subst (All is_named) (sym (take_more others i 0 c.loop-node-test.true)) (All-push is_named (take i others) (get_or others i 0) c.loop-node.invariant.named here);
}
