use Rattle.std.proofs.Common.{◌≡◌, ◌++◌, ◌==◌, drop, filter, map}
use Rattle.tetri_strl.specs.declared.grants.Grant.{Grant}
use Rattle.tetri_space.specs.Space.{space}
use Rattle.tetri_state.specs.Launch.{start_of}
use Rattle.tetri_state.proofs.launches.starting_jobs.Given as goal

abbrev pub invariant-loop-place : goal.invariant-loop-place
invariant-loop-place l =
    l.jobs.items ++ map (λ (g : Grant). g.job) (filter (λ g. start_of (space l.inst) g == (space l.inst).now) (drop l.place l.grants))
    ≡ map (λ (g : Grant). g.job) (filter (λ g. start_of (space l.inst) g == (space l.inst).now) l.grants)
