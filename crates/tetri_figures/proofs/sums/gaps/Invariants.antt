use Rattle.std.proofs.Common.{◌≡◌, ◌+◌, ◌*◌, ◌≤◌, ◌^◌, drop}
use Rattle.tetri_figures.specs.Figures.{gaps}
use Rattle.tetri_figures.proofs.sums.gaps.Given as goal

abbrev pub invariant-loop-cycle : goal.invariant-loop-cycle
invariant-loop-cycle l = record {
  told : l.sum + gaps (drop l.cycle-index l.cycles) ≡ gaps l.cycles;
  small : l.sum ≤ l.cycle-index * 2 ^ 64;
}
