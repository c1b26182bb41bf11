use Rattle.std.proofs.Common.{◌≡◌, ◌++◌, All, drop}
use Rattle.tetri_algebra.specs.Range.{IsWithin}
use Rattle.tetri_cuts.specs.Cuts.{past_from, sums_from}
use Rattle.tetri_cuts.proofs.sums.column_sums.Given as goal

abbrev pub invariant-loop-j : goal.invariant-loop-j
invariant-loop-j l = record {
  sums : l.sums.items ++ sums_from l.p.rows.items l.weights l.j (drop l.j l.p.costs.items) ≡ sums_from l.p.rows.items l.weights 0 l.p.costs.items;
  past : past_from l.p.rows.items l.weights l.j (drop l.j l.p.costs.items) ≡ past_from l.p.rows.items l.weights 0 l.p.costs.items;
  within : All IsWithin l.sums.items;
}
