use Rattle.std.proofs.Common.{◌≡◌, ◌+◌, ◌-◌, ◌*◌, ◌≤◌, length, vec_len}
use Rattle.tetri_search.proofs.LoopLemmas.{Stands}
use Rattle.tetri_search.proofs.searching.grow.Given as goal

abbrev pub invariant-loop-above : goal.invariant-loop-above
invariant-loop-above l = record {
  factors : length l.factors ≡ length l.p.costs.items;
  stands : Stands l.p l.low l.budget l.marks l.front.region l.front.trail.items l.front.duals.items l.best l.used;
  within : l.used ≤ l.budget;
}

abbrev pub decreases-loop-above : goal.decreases-loop-above
decreases-loop-above l = 2 * (l.budget - l.used) + vec_len l.front.duals
