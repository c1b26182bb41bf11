use Rattle.std.proofs.Common.{◌≡◌, ◌++◌, ◌∷◌, [], List, ℕ, cond, length, arith, ap, sym, ◌∙◌}
use Rattle.tetri_base.specs.Lists.{has, list_at}
use Rattle.std.specs.List.{filter, range_with_len}
use Rattle.tetri_space.proofs.PartsLemmas.{places_rise}
use Rattle.tetri_space.proofs.FindingLemmas.{filter_kept, list_is}
use Rattle.tetri_space.proofs.finding.parts_by_set.Goals as goal

pub loop-part-preserved : goal.loop-part-preserved
loop-part-preserved c =
    let part = c.loop-part.part in
    let same : c.as_slice.result.now ≡ list_at c.args.signatures.now part =
    c.as_slice.ensures.value ∙ sym (list_is c.args.signatures.now part c.index-signatures-part.result c.loop-part-test.true c.index-signatures-part.is) in
    record {
      count = c.in_ok-add_to_each.ensures.count ∙ c.loop-part.invariant.count;
      parts = λ k lt.
          filter_kept (λ p. has (list_at c.args.signatures.now p) k) part (list_at c.loop-part.inside.items k) _ (c.loop-part.invariant.parts k lt)
          (c.in_ok-add_to_each.ensures.added k (omega (arith, lt, c.loop-part.invariant.count)) ∙ ap (λ (ns : List ℕ). list_at c.loop-part.inside.items k ++ cond (has ns k) (part ∷ []) []) same);
    }

pub returns-clause-ascending : goal.returns-clause-ascending
returns-clause-ascending c =
    let all : c.loop-part.part ≡ length c.args.signatures.now = omega arith in
    places_rise c.loop-part.inside.items c.args.signatures.now
    (λ k lt. c.loop-part.invariant.parts k (omega (arith, lt, c.loop-part.invariant.count))
    ∙ ap (λ n. filter (λ p. has (list_at c.args.signatures.now p) k) (range_with_len 0 n)) all)
