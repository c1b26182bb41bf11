use Rattle.std.proofs.Common.{◌≡◌, ℕ, ◌+◌, length, drop, slice_index_or}
use Rattle.tetri_compile.specs.Flat.{coefficient}
use Rattle.tetri_wide.specs.Sketch.{form_of}
use Rattle.tetri_wide.proofs.flattening.add_form.Given as goal

abbrev pub invariant-loop-one : goal.invariant-loop-one
invariant-loop-one l = record {
  count : length l.numbers.items ≡ length l.fn.numbers.items;
  sums : (j : ℕ) → slice_index_or l.numbers.items j 0 + coefficient (form_of (drop l.one-index l.form)) j
      ≡ slice_index_or l.fn.numbers.items j 0 + coefficient (form_of l.form) j;
}
