use Rattle.std.proofs.Common.{◌≡◌, ◌++◌, drop, map}
use Rattle.tetri_space.specs.Space.{bid, space}
use Rattle.tetri_space.specs.Trimmed.{all_trimmed}
use Rattle.tetri_space.proofs.TrimmedLemmas.{trimmed_by}
use Rattle.tetri_space.proofs.trimming.trim_by_jobs.Given as goal

abbrev pub invariant-loop-offer : goal.invariant-loop-offer
invariant-loop-offer l = l.made ++ trimmed_by l.grants (drop l.offer-index (map bid l.offer-items)) ≡ all_trimmed (space l.inst) l.grants
