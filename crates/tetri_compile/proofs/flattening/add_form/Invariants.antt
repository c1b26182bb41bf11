use Rattle.std.proofs.Common.{◌≡◌, ℕ, ◌+◌, length, drop, slice_index_or}
use Rattle.tetri_compile.specs.Flat.{coefficient}
use Rattle.tetri_compile.proofs.flattening.add_form.Given as goal

abbrev pub invariant-loop-share : goal.invariant-loop-share
invariant-loop-share l = record {
  count : length l.numbers.items ≡ length l.fn.numbers.items;
  sums : (j : ℕ) → slice_index_or l.numbers.items j 0 + coefficient (drop l.share-index l.form) j ≡ slice_index_or l.fn.numbers.items j 0 + coefficient l.form j;
}
