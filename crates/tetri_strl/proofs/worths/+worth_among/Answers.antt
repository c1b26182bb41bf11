use Rattle.std.proofs.Common.{arith, rules, ◌≡◌, ◌+◌, max, min, drop, subst, sym, ◌∙◌, ap}
use Rattle.std.proofs.Math.Nat.{mul_comm}
use Rattle.tetri_strl.specs.declared.expr.Expr.TheFolds.{the_lemmas}
use Rattle.tetri_strl.specs.Tree.{tree, trees, join, least, scale}
use Rattle.tetri_strl.specs.Worth.{leaf_worth, worth_by, worths_by, greatest_of, least_from, added_of}
use Rattle.tetri_strl.specs.WellMade.{IsSound}
use Rattle.tetri_strl.proofs.TreeLemmas.{tree-Min, tree-Scale, trees_more, trees_end, sound_more}
use Rattle.tetri_strl.proofs.WorthLemmas.{leaf_worth_le, worth_le_limit, next_le_added, least_from_limit, scaled_worth_le, greatest_more, greatest_end, least_more, added_more, added_end}
use Rattle.tetri_strl.proofs.worths.+worth_among.Goals as goal

pub loop-part-2-init : goal.loop-part-2-init
loop-part-2-init t c =
    let same = ap tree c.in-Min.is ∙ tree-Min _ ∙ ap (λ es. join least (trees es)) (sym c.deref-part-items-in-Min.ensures.value) in
    let sound = subst IsSound same c.requires in
    record {
      sound = sound.1;
      so_far = least_from_limit (leaf_worth c.args.grants.now c.args.job) (leaf_worth_le c.args.grants.now c.args.job) _ sound.0 sound.1 ∙ sym (ap (worth_by (leaf_worth c.args.grants.now c.args.job)) same);
    }

pub overflow_add-sum : goal.overflow_add-sum
overflow_add-sum t c =
    let next = next_le_added (leaf_worth c.args.grants.now c.args.job) (leaf_worth_le c.args.grants.now c.args.job) _ _ c.part-item-in-loop-part-3.result c.loop-part-3-test.true in
    let limit = worth_le_limit (leaf_worth c.args.grants.now c.args.job) (leaf_worth_le c.args.grants.now c.args.job) _ c.requires in
    let here = ap (λ e. worth_by (leaf_worth c.args.grants.now c.args.job) (tree e)) c.part-item-in-loop-part-3.is in
    omega (arith, next, limit, here, c.worth_among-sum.ensures, c.loop-part-3.invariant.so_far)

pub overflow_mul-result : goal.overflow_mul-result
overflow_mul-result t c =
    let same = ap tree c.in-Scale.is ∙ tree-Scale _ _ ∙ ap (λ e. scale (tree e) c.in-Scale.by) (sym c.deref.ensures) in
    let fits = scaled_worth_le (leaf_worth c.args.grants.now c.args.job) (leaf_worth_le c.args.grants.now c.args.job) _ _ (subst IsSound same c.requires) in
    rw c.worth_among-in-Scale.ensures (omega (arith, fits))

pub returns-in-Scale : goal.returns-in-Scale
returns-in-Scale t c =
    let same = ap tree c.in-Scale.is ∙ tree-Scale _ _ ∙ ap (λ e. scale (tree e) c.in-Scale.by) (sym c.deref.ensures) in
    rw (c.worth_among-in-Scale.ensures, same) (mul_comm _ _)

pub worth_among-requires : goal.worth_among-requires
worth_among-requires t c =
    let sound = sound_more c.deref-part-items.result.now c.loop-part.part-index c.part-item.result c.loop-part-test.true c.part-item.is c.loop-part.invariant.sound in
    (search (rules, the_lemmas), sound.0)

pub loop-part-preserved : goal.loop-part-preserved
loop-part-preserved t c =
    let value = leaf_worth c.args.grants.now c.args.job in
    let here = worth_by value (tree c.part-item.result) in
    let more = trees_more c.deref-part-items.result.now c.loop-part.part-index c.part-item.result c.loop-part-test.true c.part-item.is in
    let rest = worths_by value (trees (drop (c.loop-part.part-index + 1) c.deref-part-items.result.now)) in
    let whole = worth_by value (tree c.args.e.now) in
    let so_far = subst (λ ts. max c.loop-part.best (greatest_of (worths_by value ts)) ≡ whole) more c.loop-part.invariant.so_far in
    record {
      sound = (sound_more c.deref-part-items.result.now c.loop-part.part-index c.part-item.result c.loop-part-test.true c.part-item.is c.loop-part.invariant.sound).1;
      so_far = greatest_more c.loop-part.best here c.max-best.result (greatest_of rest) whole (c.max-best.ensures ∙ ap (λ n. max n c.loop-part.best) c.worth_among.ensures) so_far;
    }

pub returns-after-loop-part : goal.returns-after-loop-part
returns-after-loop-part t c =
    let end = trees_end c.deref-part-items.result.now c.loop-part.part-index c.loop-part-test.false in
    greatest_end c.loop-part.best (worth_by (leaf_worth c.args.grants.now c.args.job) (tree c.args.e.now)) (sym (ap (λ ts. max c.loop-part.best (greatest_of (worths_by (leaf_worth c.args.grants.now c.args.job) ts))) end) ∙ c.loop-part.invariant.so_far)

pub worth_among-requires-in-loop-part-2 : goal.worth_among-requires-in-loop-part-2
worth_among-requires-in-loop-part-2 t c =
    let sound = sound_more c.deref-part-items-in-Min.result.now c.loop-part-2.part-index c.part-item-in-loop-part-2.result c.loop-part-2-test.true c.part-item-in-loop-part-2.is c.loop-part-2.invariant.sound in
    (search (rules, the_lemmas), sound.0)

pub loop-part-2-preserved : goal.loop-part-2-preserved
loop-part-2-preserved t c =
    let value = leaf_worth c.args.grants.now c.args.job in
    let here = worth_by value (tree c.part-item-in-loop-part-2.result) in
    let more = trees_more c.deref-part-items-in-Min.result.now c.loop-part-2.part-index c.part-item-in-loop-part-2.result c.loop-part-2-test.true c.part-item-in-loop-part-2.is in
    let rest = worths_by value (trees (drop (c.loop-part-2.part-index + 1) c.deref-part-items-in-Min.result.now)) in
    let whole = worth_by value (tree c.args.e.now) in
    let so_far = subst (λ ts. least_from c.loop-part-2.low (worths_by value ts) ≡ whole) more c.loop-part-2.invariant.so_far in
    record {
      sound = (sound_more c.deref-part-items-in-Min.result.now c.loop-part-2.part-index c.part-item-in-loop-part-2.result c.loop-part-2-test.true c.part-item-in-loop-part-2.is c.loop-part-2.invariant.sound).1;
      so_far =
          ap (λ n. least_from n rest) (least_more c.loop-part-2.low here c.min-low.result (c.min-low.ensures ∙ ap (λ n. min n c.loop-part-2.low) c.worth_among-in-loop-part-2.ensures)) ∙ so_far;
    }

pub returns-after-loop-part-2 : goal.returns-after-loop-part-2
returns-after-loop-part-2 t c =
    let end = trees_end c.deref-part-items-in-Min.result.now c.loop-part-2.part-index c.loop-part-2-test.false in
    sym (ap (λ ts. least_from c.loop-part-2.low (worths_by (leaf_worth c.args.grants.now c.args.job) ts)) end) ∙ c.loop-part-2.invariant.so_far

pub worth_among-sum-requires : goal.worth_among-sum-requires
worth_among-sum-requires t c =
    let sound = sound_more c.deref-part-items-in-Sum.result.now c.loop-part-3.part-index c.part-item-in-loop-part-3.result c.loop-part-3-test.true c.part-item-in-loop-part-3.is c.loop-part-3.invariant.sound in
    (search (rules, the_lemmas), sound.0)

pub loop-part-3-preserved : goal.loop-part-3-preserved
loop-part-3-preserved t c =
    let value = leaf_worth c.args.grants.now c.args.job in
    let here = worth_by value (tree c.part-item-in-loop-part-3.result) in
    let more = trees_more c.deref-part-items-in-Sum.result.now c.loop-part-3.part-index c.part-item-in-loop-part-3.result c.loop-part-3-test.true c.part-item-in-loop-part-3.is in
    let rest = worths_by value (trees (drop (c.loop-part-3.part-index + 1) c.deref-part-items-in-Sum.result.now)) in
    let whole = worth_by value (tree c.args.e.now) in
    let so_far = subst (λ ts. c.loop-part-3.sum + added_of (worths_by value ts) ≡ whole) more c.loop-part-3.invariant.so_far in
    record {
      sound = (sound_more c.deref-part-items-in-Sum.result.now c.loop-part-3.part-index c.part-item-in-loop-part-3.result c.loop-part-3-test.true c.part-item-in-loop-part-3.is c.loop-part-3.invariant.sound).1;
      so_far = added_more c.loop-part-3.sum here c.worth_among-sum.result (added_of rest) whole c.worth_among-sum.ensures so_far;
    }

pub returns-after-loop-part-3 : goal.returns-after-loop-part-3
returns-after-loop-part-3 t c =
    let end = trees_end c.deref-part-items-in-Sum.result.now c.loop-part-3.part-index c.loop-part-3-test.false in
    added_end c.loop-part-3.sum (worth_by (leaf_worth c.args.grants.now c.args.job) (tree c.args.e.now)) (sym (ap (λ ts. c.loop-part-3.sum + added_of (worths_by (leaf_worth c.args.grants.now c.args.job) ts)) end) ∙ c.loop-part-3.invariant.so_far)
