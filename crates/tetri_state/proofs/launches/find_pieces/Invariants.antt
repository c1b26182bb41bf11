use Rattle.std.proofs.Common.{◌≡◌, ◌<◌, ◌^◌, ◌++◌, All, drop, map, take}
use Rattle.tetri_space.specs.Space.{space}
use Rattle.tetri_state.specs.After.{starting_pieces}
use Rattle.tetri_state.specs.Launch.{start_of}
use Rattle.tetri_trace.specs.Scenario.{scenario}
use Rattle.tetri_state.proofs.launches.find_pieces.Given as goal

abbrev pub invariant-loop-grant : goal.invariant-loop-grant
invariant-loop-grant l = record {
  starts : l.starts.items ++ map (start_of (space l.inst)) (drop l.grant-index l.grants) ≡ map (start_of (space l.inst)) l.grants;
  pieces : l.pieces.items ++ starting_pieces (scenario l.trace) (space l.inst) (drop l.grant-index l.grants) ≡ starting_pieces (scenario l.trace) (space l.inst) l.grants;
  leaves : All (λ g. g.leaf < 2 ^ 32) (take l.grant-index l.grants);
}
