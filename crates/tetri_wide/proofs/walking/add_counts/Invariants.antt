use Rattle.std.proofs.Common.{◌≡◌, ◌+◌, ◌++◌, map, min, drop}
use Rattle.tetri_space.specs.Space.{space}
use Rattle.tetri_compile.specs.Draft.{leaf_tallies}
use Rattle.tetri_compile.specs.steps.Walked.{usable}
use Rattle.tetri_wide.specs.Sketch.{form_of, limit_of, next_column, sketch, tally_of}
use Rattle.tetri_wide.proofs.walking.add_counts.Given as goal

abbrev pub invariant-loop-part : goal.invariant-loop-part
invariant-loop-part l = record {
  long : next_column (sketch l.out) ≡ next_column (sketch l.fn.out) + l.part-index;
  uppers : l.out.uppers.items ++ map (λ p. min l.leaf.k (usable (space l.inst) p l.leaf)) (drop l.part-index l.part-items)
      ≡ l.fn.out.uppers.items ++ map (λ p. min l.leaf.k (usable (space l.inst) p l.leaf)) l.part-items;
  rows : map limit_of l.out.rows.items ≡ map limit_of l.fn.out.rows.items;
  tallies : map tally_of l.out.holdings.items ++ leaf_tallies l.job l.leaf (drop l.part-index l.part-items) (next_column (sketch l.out))
      ≡ map tally_of l.fn.out.holdings.items ++ leaf_tallies l.job l.leaf l.part-items (next_column (sketch l.fn.out));
}
