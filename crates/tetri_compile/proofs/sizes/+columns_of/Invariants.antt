use Rattle.std.proofs.Common.{◌≡◌, ◌+◌, ◌<◌, drop, length}
use Rattle.tetri_strl.specs.Aligned.{EachLeafOf}
use Rattle.tetri_strl.specs.Tree.{tree, trees}
use Rattle.tetri_space.specs.Partitions.{parts_found, parts_of}
use Rattle.tetri_compile.specs.Sizes.{width_by, widths_by, widths_marked}
use Rattle.tetri_compile.proofs.sizes.+columns_of.Given as goal

abbrev pub invariant-loop-kid-2 : goal.invariant-loop-kid-2
invariant-loop-kid-2 l = record {
  known : EachLeafOf (λ m. m.set < length (parts_of l.parts).inside) (trees (drop l.kid-index l.kid-items));
  so_far : l.columns + widths_marked (λ k. length (parts_found (parts_of l.parts) k)) (trees (drop l.kid-index l.kid-items))
      ≡ width_by (λ k. length (parts_found (parts_of l.parts) k)) (tree l.e);
}

abbrev pub invariant-loop-kid : goal.invariant-loop-kid
invariant-loop-kid l = record {
  known : EachLeafOf (λ m. m.set < length (parts_of l.parts).inside) (trees (drop l.kid-index l.kid-items));
  so_far : l.columns + widths_by (λ k. length (parts_found (parts_of l.parts) k)) (trees (drop l.kid-index l.kid-items))
      ≡ width_by (λ k. length (parts_found (parts_of l.parts) k)) (tree l.e);
}
