use Rattle.std.proofs.Common.{◌≡◌, ◌^◌, ◌<◌, ◌&&◌, ◌||◌, ℕ, List, Bool, true, false, All, length, slice_index_or, subst, sym, ap, ◌∙◌, refl, arith}
use Rattle.tetri_base.specs.Lists.{has}
use Rattle.tetri_space.specs.Partitions.{parts_found, parts_of}
use Rattle.tetri_space.specs.Slots.{marked}
use Rattle.tetri_space.proofs.InstanceLaws.{none_meets}
use Rattle.tetri_compile.specs.Sizes.{has_slot}
use Rattle.tetri_compile.proofs.HeldLemmas.{parts_held, some_slot}
use Rattle.tetri_compile.proofs.SizeLemmas.{used_next}
use Rattle.tetri_compile.proofs.sizes.hold_parts.Goals as goal
use Rattle.tetri_compile.proofs.sizes.hold_parts.Goals.{then-named-set-gt0, else-named-set-gt0}

or_none : (b c d : Bool) → c ≡ false → b ≡ (b || (c && d))
or_none true c d e = refl
or_none false c d e = sym (ap (λ x. x && d) e)

pub parts_in-requires : goal.parts_in-requires
parts_in-requires c =
    let k = c.loop-set.set in
    let some = some_slot (slice_index_or c.args.named.now k 0) c.if-named-set-gt0.true (omega (arith, c.type_inv.named k)) in
    (c.requires.usable k some.0 some.1 some.2).known

pub hold-requires : goal.hold-requires
hold-requires c =
    let k = c.loop-set.set in
    let some = some_slot (slice_index_or c.args.named.now k 0) c.if-named-set-gt0.true (omega (arith, c.type_inv.named k)) in
    subst (λ (ps : List ℕ). All (λ r. r < length c.loop-set.used) ps) (sym c.parts_in.ensures)
    (subst (λ n. All (λ r. r < n) (parts_found (parts_of c.args.parts.now) k)) (sym c.loop-set.auto.used) (c.requires.usable k some.0 some.1 some.2).parts)

pub loop-set-preserved : goal.loop-set-preserved
loop-set-preserved c =
    let p = parts_of c.args.parts.now in
    let k = c.loop-set.set in
    let named = c.args.named.now in
    λ q i below lt. used_next (λ j. has_slot (slice_index_or named j 0) i && has (parts_found p j) q) k (has_slot (slice_index_or c.args.used.now q 0) i) (has_slot (slice_index_or c.loop-set.used q 0) i) _
    (c.loop-set.invariant q i below lt)
    (elim c.if-named-set-gt0.branch [
      | then-named-set-gt0 w ↦
          let some = some_slot (slice_index_or named k 0) w.if-named-set-gt0.true (omega (arith, c.type_inv.named k)) in
          let usable = c.requires.usable k some.0 some.1 some.2 in
          let long = c.loop-set.auto.used in
          ap (λ (xs : List ℕ). has_slot (slice_index_or xs q 0) i) (w.used-is ∙ w.hold.ensures)
          ∙ ap (λ (ns : List ℕ). has_slot (slice_index_or (marked c.loop-set.used (slice_index_or named k 0) ns) q 0) i) w.parts_in.ensures
          ∙ parts_held (slice_index_or named k 0) i q (parts_found p k) c.loop-set.used lt (omega (arith, below, long))
          (subst (λ n. All (λ r. r < n) (parts_found p k)) (sym long) usable.parts)
      | else-named-set-gt0 w ↦
          let none : slice_index_or named k 0 ≡ 0 = omega (arith, w.if-named-set-gt0.false) in
          ap (λ (xs : List ℕ). has_slot (slice_index_or xs q 0) i) w.used-is
          ∙ or_none (has_slot (slice_index_or c.loop-set.used q 0) i) (has_slot (slice_index_or named k 0) i) (has (parts_found p k) q) (ap (λ s. has_slot s i) none ∙ none_meets (2 ^ i))
    ])
