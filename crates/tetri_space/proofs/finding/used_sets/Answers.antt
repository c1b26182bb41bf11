use Rattle.std.proofs.Common.{◌<◌, subst, sym, ◌∙◌}
use Rattle.tetri_strl.specs.Aligned.{EachLeaf}
use Rattle.tetri_strl.specs.Tree.{tree}
use Rattle.tetri_space.proofs.FindingLemmas.{named_next, named_within}
use Rattle.tetri_space.proofs.finding.used_sets.Goals as goal

pub mark_sets-requires : goal.mark_sets-requires
mark_sets-requires c =
    subst (λ n. EachLeaf (λ l. l.set < n) (tree c.offer-item.result.expr)) (sym c.loop-offer.invariant.count)
    (named_within (λ k. k < c.args.count) c.args.offers.now c.loop-offer.offer-index c.offer-item.result c.loop-offer-test.true c.offer-item.is c.requires)

pub loop-offer-preserved : goal.loop-offer-preserved
loop-offer-preserved c = record {
  count = c.mark_sets.ensures.count ∙ c.loop-offer.invariant.count;
  so_far = λ k.
      named_next c.args.offers.now c.loop-offer.offer-index c.offer-item.result c.loop-offer-test.true c.offer-item.is k _ _ (c.mark_sets.ensures.marks k)
      ∙ c.loop-offer.invariant.so_far k;
}
