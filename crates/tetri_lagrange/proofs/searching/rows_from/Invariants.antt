use Rattle.std.proofs.Common.{◌≡◌, All, length, map}
use Rattle.tetri_lagrange.proofs.searching.rows_from.Given as goal

abbrev pub invariant-loop-part : goal.invariant-loop-part
invariant-loop-part l = record {
  count : length l.rows.items ≡ l.part;
  long : All (λ r. length r ≡ l.fn.inst.window) (map (λ v. v.items) l.rows.items);
}
