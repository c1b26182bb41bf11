use Rattle.std.proofs.Common.{◌≡◌, ◌∙◌, ℕ, ◌<◌, List, length, set, sym, subst, arith, inl, inr}
use Rattle.std.proofs.lemmas.Bool.{cases_lt}
use Rattle.std.proofs.lemmas.List.{length-set}
use Rattle.tetri_space.specs.steps.Finding.{IsSigned}
use Rattle.tetri_base.specs.Lists.{list_at}
use Rattle.tetri_space.specs.Space.{space}
use Rattle.tetri_space.proofs.FindingLemmas.{list_is, put_here, put_other}
use Rattle.tetri_space.proofs.finding.sign_each.Goals as goal

pub loop-node-preserved : goal.loop-node-preserved
loop-node-preserved c =
    let s = space c.args.inst.now in
    let i = c.loop-node.node in
    let vs = c.loop-node.signatures.items in
    let old = list_at c.args.signatures.now.items in
    let lt : i < length vs = omega (arith, c.loop-node-test.true, c.loop-node.invariant.count) in
    let new = c.sign.new.signature in
    let before : c.index_mut.result.now.items ≡ old i = sym (list_is vs i c.index_mut.result.now lt c.index_mut.ensures.value) ∙ c.loop-node.invariant.rest i (omega arith) in
    let here : IsSigned s c.args.base i (old i) (list_at (set vs i new) i) =
    subst (λ (ns : List ℕ). IsSigned s c.args.base i ns (list_at (set vs i new) i)) before
    (subst (IsSigned s c.args.base i c.index_mut.result.now.items) (sym (put_here vs i new lt)) c.in_ok-sign.ensures) in
    record {
      count = length-set _ _ _ ∙ c.loop-node.invariant.count;
      signed = λ n below. elim (cases_lt n i) [
        | inl less ↦ subst (IsSigned s c.args.base n (old n)) (sym (put_other vs i n new (λ same. omega (arith, same, less)))) (c.loop-node.invariant.signed n less)
        | inr more ↦ let same : i ≡ n = omega (arith, below, more) in subst (λ (k : ℕ). IsSigned s c.args.base k (old k) (list_at (set vs i new) k)) same here
      ];
      rest = λ n le. put_other vs i n new (λ same. omega (arith, same, le)) ∙ c.loop-node.invariant.rest n (omega (arith, le));
    }
