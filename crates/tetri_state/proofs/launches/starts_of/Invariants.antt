use Rattle.std.proofs.Common.{◌≡◌, ◌++◌, drop, map}
use Rattle.tetri_space.specs.Space.{space}
use Rattle.tetri_state.specs.Launch.{start_of}
use Rattle.tetri_state.proofs.launches.starts_of.Given as goal

abbrev pub invariant-loop-grant : goal.invariant-loop-grant
invariant-loop-grant l = l.starts.items ++ map (start_of (space l.inst)) (drop l.grant-index l.grants) ≡ map (start_of (space l.inst)) l.grants
