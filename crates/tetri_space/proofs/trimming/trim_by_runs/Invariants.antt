use Rattle.std.proofs.Common.{◌≡◌, ◌++◌, drop, map}
use Rattle.std.specs.List.Sorted.{IsNonDecreasingBy}
use Rattle.tetri_strl.specs.declared.grants.Grant.{Grant}
use Rattle.tetri_space.specs.Space.{bid, space}
use Rattle.tetri_space.specs.Trimmed.{all_trimmed}
use Rattle.tetri_space.proofs.TrimmedLemmas.{trimmed_by}
use Rattle.tetri_space.proofs.trimming.trim_by_runs.Given as goal

abbrev pub invariant-loop-offer : goal.invariant-loop-offer
invariant-loop-offer l = record {
  ascending : IsNonDecreasingBy (λ (g : Grant). g.job) l.rest;
  so_far : l.made ++ trimmed_by l.rest (drop l.offer-index (map bid l.offer-items)) ≡ all_trimmed (space l.inst) l.grants;
}
