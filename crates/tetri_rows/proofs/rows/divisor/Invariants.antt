use Rattle.std.proofs.Common.{ℕ, ◌<◌, ◌^◌}
use Prim.Native.Nat.{◌∣◌}
use Rattle.std.specs.Prelude.{unsigned_abs, ◌<ℤ◌, pos}
use Rattle.tetri_rows.specs.Rows.{combined_at}
use Rattle.tetri_rows.proofs.rows.divisor.Given as goal

abbrev pub invariant-loop-k : goal.invariant-loop-k
invariant-loop-k l = record {
  positive : pos 0 <ℤ l.g;
  fits : unsigned_abs l.g < 2 ^ 63;
  den : unsigned_abs l.g ∣ unsigned_abs l.den;
  numbers : (q : ℕ) → q < l.k → unsigned_abs l.g ∣ unsigned_abs (combined_at l.d l.f l.row l.pivot q);
}
