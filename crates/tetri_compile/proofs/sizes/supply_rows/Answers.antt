use Rattle.std.proofs.Common.{◌≡◌, ◌+◌, ◌<◌, ℕ, length, take, sym, ap, ◌∙◌, arith}
use Rattle.std.specs.List.{range_with_len}
use Rattle.std.proofs.lemmas.List.{length-take}
use Rattle.tetri_base.specs.Lists.{count}
use Rattle.tetri_space.specs.Partitions.{parts_found, parts_of}
use Rattle.tetri_compile.specs.Sizes.{IsUsable, has_slot, is_used, leaves_in}
use Rattle.std.proofs.lemmas.List.FromFn.{length-range_with_len}
use Rattle.tetri_compile.proofs.HeldLemmas.{none_at, used_there}
use Rattle.tetri_compile.proofs.SizeLemmas.{count_most, marked_is, named_leaf, sum_range_next}
use Rattle.tetri_compile.proofs.sizes.supply_rows.Goals as goal

pub hold_parts-requires-clause-usable : goal.hold_parts-requires-clause-usable
hold_parts-requires-clause-usable c = λ k i early held.
    named_leaf (λ j. IsUsable (parts_of c.args.parts.now) 4096 j) (leaves_in (parts_of c.args.parts.now).bids) (c.args.inst.now.now + i) k c.requires.usable.sets
    (sym (marked_is _ _ _ (c.hold_leaves.ensures k i early) (none_at 4096 k i)) ∙ held)

pub overflow_add-rows : goal.overflow_add-rows
overflow_add-rows c =
    let n = c.count.result in
    omega (
      arith,
      c.held_in-rows.ensures,
      count_most (λ s. has_slot s c.loop-place.place) (take n c.hold_parts.new.used),
      length-take n c.hold_parts.new.used,
      c.count.ensures,
      c.requires.usable.few,
      c.loop-place.invariant.few,
      c.requires.sound.few_slots,
    )

pub loop-place-preserved : goal.loop-place-preserved
loop-place-preserved c =
    let p = parts_of c.args.parts.now in
    let ls = leaves_in p.bids in
    let now = c.args.inst.now.now in
    let i = c.loop-place.place in
    let n = length p.groups in
    let named = c.hold_leaves.new.named in
    let used = c.hold_parts.new.used in
    let per = λ (t : ℕ). count (λ q. is_used (parts_found p) ls q t) (range_with_len 0 n) in
    let early : i < 64 = omega (arith, c.requires.sound.few_slots) in
    let long : length used ≡ 4096 = c.hold_parts.auto.used in
    let wide : length named ≡ 4096 = c.hold_leaves.auto.named in
    let here : c.held_in-rows.result ≡ per (now + i) =
    c.held_in-rows.ensures ∙ ap (λ m. count (λ s. has_slot s i) (take m used)) c.count.ensures
    ∙ used_there (parts_found p) ls now i n named used (omega (arith, c.requires.usable.few, long))
    (λ k d lt. omega (arith, (c.requires.usable.leaves k d lt).0, wide))
    (λ k. marked_is _ _ _ (c.hold_leaves.ensures k i early) (none_at 4096 k i))
    (λ q below. marked_is _ _ _ (c.hold_parts.ensures q i (omega (arith, below, long)) early) (none_at 4096 q i)) in
    let next = sum_range_next per now i in
    let most = count_most (λ q. is_used (parts_found p) ls q (now + i)) (range_with_len 0 n) in
    record {
      so_far = omega (arith, c.loop-place.invariant.so_far, here, next);
      few = omega (arith, most, here, c.loop-place.invariant.few, c.requires.usable.few, length-range_with_len 0 n);
    }
