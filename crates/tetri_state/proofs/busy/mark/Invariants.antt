use Rattle.std.proofs.Common.{◌≡◌, drop, length}
use Rattle.tetri_state.specs.Planning.{marked}
use Rattle.tetri_state.proofs.busy.mark.Given as goal

abbrev pub invariant-loop-place : goal.invariant-loop-place
invariant-loop-place g l = record {
  row : marked l.with l.row.items (drop l.place-index l.places) ≡ marked l.with l.fn.row.items l.places;
  len : length l.row.items ≡ length l.fn.row.items;
}
