use Rattle.std.proofs.Common.{◌≡◌, ℕ, ◌<◌, ◌||◌, false, length, drop, map, slice_index_or}
use Rattle.tetri_strl.specs.Aligned.{EachLeafOf}
use Rattle.tetri_strl.specs.Tree.{leaves, leaves_of, tree, trees}
use Rattle.tetri_base.specs.Lists.{has}
use Rattle.tetri_space.proofs.finding.+mark_sets.Given as goal

abbrev pub invariant-loop-part : goal.invariant-loop-part
invariant-loop-part l = record {
  within : EachLeafOf (λ m. m.set < length l.used.items) (trees (drop l.part-index l.part-items));
  so_far : (k : ℕ) → (slice_index_or l.used.items k false || has (map (λ m. m.set) (leaves_of (trees (drop l.part-index l.part-items)))) k)
      ≡ (slice_index_or l.fn.used.items k false || has (map (λ m. m.set) (leaves (tree l.e))) k);
}
