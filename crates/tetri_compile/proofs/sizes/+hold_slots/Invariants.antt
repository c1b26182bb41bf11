use Rattle.std.proofs.Common.{◌≡◌, ℕ, ◌+◌, ◌<◌, ◌==◌, ◌&&◌, ◌||◌, length, drop, slice_index_or}
use Rattle.std.specs.List.{list_any}
use Rattle.tetri_strl.specs.Aligned.{EachLeafOf}
use Rattle.tetri_strl.specs.Tree.{leaves, leaves_of, tree, trees}
use Rattle.tetri_compile.specs.Sizes.{StartsInWindow, covers, has_slot}
use Rattle.tetri_compile.proofs.sizes.+hold_slots.Given as goal

abbrev pub invariant-loop-kid : goal.invariant-loop-kid
invariant-loop-kid l = record {
  good : EachLeafOf (λ m. (m.set < length l.named) × StartsInWindow l.now m) (trees (drop l.kid-index l.kid-items));
  so_far : (k i : ℕ) → i < 64 → (has_slot (slice_index_or l.named k 0) i || list_any (λ m. covers m (l.now + i) && m.set == k) (leaves_of (trees (drop l.kid-index l.kid-items))))
      ≡ (has_slot (slice_index_or l.fn.named k 0) i || list_any (λ m. covers m (l.now + i) && m.set == k) (leaves (tree l.e)));
}
