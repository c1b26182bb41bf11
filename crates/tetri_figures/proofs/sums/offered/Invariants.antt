use Rattle.std.proofs.Common.{◌≡◌, ◌+◌, ◌*◌, ◌≤◌, ◌^◌, drop}
use Rattle.tetri_base.specs.Lists.{sum_of}
use Rattle.tetri_figures.specs.Figures.{offered, picked}
use Rattle.tetri_figures.proofs.sums.offered.Given as goal

abbrev pub invariant-loop-place : goal.invariant-loop-place
invariant-loop-place l = record {
  told : l.sum + sum_of (λ top. top) (picked (drop l.place l.jobs) (drop l.place l.tops)) ≡ offered l.jobs l.tops;
  small : l.sum ≤ l.place * 2 ^ 64;
}
