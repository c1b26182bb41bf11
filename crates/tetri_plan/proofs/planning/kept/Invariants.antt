use Rattle.std.proofs.Common.{◌≡◌, drop, map}
use Rattle.tetri_space.specs.Space.{space}
use Rattle.tetri_space.specs.Total.{total_in}
use Rattle.tetri_space.specs.Trimmed.{all_trimmed}
use Rattle.tetri_plan.specs.Chosen.{first_best, kept}
use Rattle.tetri_plan.proofs.planning.kept.Given as goal

abbrev pub invariant-loop-a : goal.invariant-loop-a
invariant-loop-a l = record {
  grants : first_best (space l.inst) l.best.grants (map (all_trimmed (space l.inst)) (drop l.a-index l.given)) ≡ kept (space l.inst) l.carry l.given;
  worth : l.best.worth ≡ total_in (space l.inst) l.best.grants;
}
