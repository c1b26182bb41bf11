use Rattle.std.proofs.Common.{◌≡◌, ◌+◌, ◌++◌, map, min, drop}
use Rattle.tetri_space.specs.Space.{space}
use Rattle.tetri_compile.specs.Draft.{leaf_tallies}
use Rattle.tetri_compile.specs.steps.Walked.{next_column, usable}
use Rattle.tetri_compile.proofs.walking.add_counts.Given as goal

abbrev pub invariant-loop-part : goal.invariant-loop-part
invariant-loop-part l = record {
  long : next_column l.out ≡ next_column l.fn.out + l.part-index;
  uppers : l.out.uppers.items ++ map (λ p. min l.leaf.k (usable (space l.inst) p l.leaf)) (drop l.part-index l.part-items)
      ≡ l.fn.out.uppers.items ++ map (λ p. min l.leaf.k (usable (space l.inst) p l.leaf)) l.part-items;
  rows : l.out.rows ≡ l.fn.out.rows;
  tallies : l.out.tallies.items ++ leaf_tallies l.job l.leaf (drop l.part-index l.part-items) (next_column l.out)
      ≡ l.fn.out.tallies.items ++ leaf_tallies l.job l.leaf l.part-items (next_column l.fn.out);
}
