use Rattle.std.proofs.Common.{arith, rules, ◌≡◌, ◌+◌, max, min, drop, subst, sym, ◌∙◌, ap}
use Rattle.std.proofs.Math.Nat.{mul_comm}
use Rattle.tetri_strl.specs.declared.expr.Expr.TheFolds.{the_lemmas}
use Rattle.tetri_strl.specs.Tree.{tree, trees, join, least, scale}
use Rattle.tetri_strl.specs.Worth.{leaf_top, worth_by, worths_by, greatest_of, least_from, added_of}
use Rattle.tetri_strl.specs.WellMade.{IsSound}
use Rattle.tetri_strl.proofs.TreeLemmas.{tree-Min, tree-Scale, trees_more, trees_end, sound_more}
use Rattle.tetri_strl.proofs.WorthLemmas.{leaf_top_le, worth_le_limit, next_le_added, least_from_limit, scaled_worth_le, greatest_more, greatest_end, least_more, added_more, added_end}
use Rattle.tetri_strl.proofs.tops.+top_in.Goals as goal

pub loop-part-2-init : goal.loop-part-2-init
loop-part-2-init t c =
    let same = ap tree c.in-Min.is ∙ tree-Min _ ∙ ap (λ es. join least (trees es)) (sym c.deref-part-items-in-Min.ensures.value) in
    let sound = subst IsSound same c.requires in
    record {
      sound = sound.1;
      so_far = least_from_limit (leaf_top c.args.from c.args.to) (leaf_top_le c.args.from c.args.to) _ sound.0 sound.1 ∙ sym (ap (worth_by (leaf_top c.args.from c.args.to)) same);
    }

pub overflow_add-sum : goal.overflow_add-sum
overflow_add-sum t c =
    let next = next_le_added (leaf_top c.args.from c.args.to) (leaf_top_le c.args.from c.args.to) _ _ c.part-item-in-loop-part-3.result c.loop-part-3-test.true in
    let limit = worth_le_limit (leaf_top c.args.from c.args.to) (leaf_top_le c.args.from c.args.to) _ c.requires in
    let here = ap (λ e. worth_by (leaf_top c.args.from c.args.to) (tree e)) c.part-item-in-loop-part-3.is in
    omega (arith, next, limit, here, c.top_in-sum.ensures, c.loop-part-3.invariant.so_far)

pub overflow_mul-result : goal.overflow_mul-result
overflow_mul-result t c =
    let same = ap tree c.in-Scale.is ∙ tree-Scale _ _ ∙ ap (λ e. scale (tree e) c.in-Scale.by) (sym c.deref.ensures) in
    let fits = scaled_worth_le (leaf_top c.args.from c.args.to) (leaf_top_le c.args.from c.args.to) _ _ (subst IsSound same c.requires) in
    rw c.top_in-in-Scale.ensures (omega (arith, fits))

pub returns-in-Scale : goal.returns-in-Scale
returns-in-Scale t c =
    let same = ap tree c.in-Scale.is ∙ tree-Scale _ _ ∙ ap (λ e. scale (tree e) c.in-Scale.by) (sym c.deref.ensures) in
    rw (c.top_in-in-Scale.ensures, same) (mul_comm _ _)

pub top_in-requires : goal.top_in-requires
top_in-requires t c =
    let sound = sound_more c.deref-part-items.result.now c.loop-part.part-index c.part-item.result c.loop-part-test.true c.part-item.is c.loop-part.invariant.sound in
    (search (rules, the_lemmas), sound.0)

pub loop-part-preserved : goal.loop-part-preserved
loop-part-preserved t c =
    let value = leaf_top c.args.from c.args.to in
    let here = worth_by value (tree c.part-item.result) in
    let more = trees_more c.deref-part-items.result.now c.loop-part.part-index c.part-item.result c.loop-part-test.true c.part-item.is in
    let rest = worths_by value (trees (drop (c.loop-part.part-index + 1) c.deref-part-items.result.now)) in
    let whole = worth_by value (tree c.args.e.now) in
    let so_far = subst (λ ts. max c.loop-part.best (greatest_of (worths_by value ts)) ≡ whole) more c.loop-part.invariant.so_far in
    record {
      sound = (sound_more c.deref-part-items.result.now c.loop-part.part-index c.part-item.result c.loop-part-test.true c.part-item.is c.loop-part.invariant.sound).1;
      so_far = greatest_more c.loop-part.best here c.max-best.result (greatest_of rest) whole (c.max-best.ensures ∙ ap (λ n. max n c.loop-part.best) c.top_in.ensures) so_far;
    }

pub returns-after-loop-part : goal.returns-after-loop-part
returns-after-loop-part t c =
    let end = trees_end c.deref-part-items.result.now c.loop-part.part-index c.loop-part-test.false in
    greatest_end c.loop-part.best (worth_by (leaf_top c.args.from c.args.to) (tree c.args.e.now)) (sym (ap (λ ts. max c.loop-part.best (greatest_of (worths_by (leaf_top c.args.from c.args.to) ts))) end) ∙ c.loop-part.invariant.so_far)

pub top_in-requires-in-loop-part-2 : goal.top_in-requires-in-loop-part-2
top_in-requires-in-loop-part-2 t c =
    let sound = sound_more c.deref-part-items-in-Min.result.now c.loop-part-2.part-index c.part-item-in-loop-part-2.result c.loop-part-2-test.true c.part-item-in-loop-part-2.is c.loop-part-2.invariant.sound in
    (search (rules, the_lemmas), sound.0)

pub loop-part-2-preserved : goal.loop-part-2-preserved
loop-part-2-preserved t c =
    let value = leaf_top c.args.from c.args.to in
    let here = worth_by value (tree c.part-item-in-loop-part-2.result) in
    let more = trees_more c.deref-part-items-in-Min.result.now c.loop-part-2.part-index c.part-item-in-loop-part-2.result c.loop-part-2-test.true c.part-item-in-loop-part-2.is in
    let rest = worths_by value (trees (drop (c.loop-part-2.part-index + 1) c.deref-part-items-in-Min.result.now)) in
    let whole = worth_by value (tree c.args.e.now) in
    let so_far = subst (λ ts. least_from c.loop-part-2.low (worths_by value ts) ≡ whole) more c.loop-part-2.invariant.so_far in
    record {
      sound = (sound_more c.deref-part-items-in-Min.result.now c.loop-part-2.part-index c.part-item-in-loop-part-2.result c.loop-part-2-test.true c.part-item-in-loop-part-2.is c.loop-part-2.invariant.sound).1;
      so_far =
          ap (λ n. least_from n rest) (least_more c.loop-part-2.low here c.min-low.result (c.min-low.ensures ∙ ap (λ n. min n c.loop-part-2.low) c.top_in-in-loop-part-2.ensures)) ∙ so_far;
    }

pub returns-after-loop-part-2 : goal.returns-after-loop-part-2
returns-after-loop-part-2 t c =
    let end = trees_end c.deref-part-items-in-Min.result.now c.loop-part-2.part-index c.loop-part-2-test.false in
    sym (ap (λ ts. least_from c.loop-part-2.low (worths_by (leaf_top c.args.from c.args.to) ts)) end) ∙ c.loop-part-2.invariant.so_far

pub top_in-sum-requires : goal.top_in-sum-requires
top_in-sum-requires t c =
    let sound = sound_more c.deref-part-items-in-Sum.result.now c.loop-part-3.part-index c.part-item-in-loop-part-3.result c.loop-part-3-test.true c.part-item-in-loop-part-3.is c.loop-part-3.invariant.sound in
    (search (rules, the_lemmas), sound.0)

pub loop-part-3-preserved : goal.loop-part-3-preserved
loop-part-3-preserved t c =
    let value = leaf_top c.args.from c.args.to in
    let here = worth_by value (tree c.part-item-in-loop-part-3.result) in
    let more = trees_more c.deref-part-items-in-Sum.result.now c.loop-part-3.part-index c.part-item-in-loop-part-3.result c.loop-part-3-test.true c.part-item-in-loop-part-3.is in
    let rest = worths_by value (trees (drop (c.loop-part-3.part-index + 1) c.deref-part-items-in-Sum.result.now)) in
    let whole = worth_by value (tree c.args.e.now) in
    let so_far = subst (λ ts. c.loop-part-3.sum + added_of (worths_by value ts) ≡ whole) more c.loop-part-3.invariant.so_far in
    record {
      sound = (sound_more c.deref-part-items-in-Sum.result.now c.loop-part-3.part-index c.part-item-in-loop-part-3.result c.loop-part-3-test.true c.part-item-in-loop-part-3.is c.loop-part-3.invariant.sound).1;
      so_far = added_more c.loop-part-3.sum here c.top_in-sum.result (added_of rest) whole c.top_in-sum.ensures so_far;
    }

pub returns-after-loop-part-3 : goal.returns-after-loop-part-3
returns-after-loop-part-3 t c =
    let end = trees_end c.deref-part-items-in-Sum.result.now c.loop-part-3.part-index c.loop-part-3-test.false in
    added_end c.loop-part-3.sum (worth_by (leaf_top c.args.from c.args.to) (tree c.args.e.now)) (sym (ap (λ ts. c.loop-part-3.sum + added_of (worths_by (leaf_top c.args.from c.args.to) ts)) end) ∙ c.loop-part-3.invariant.so_far)
