use Rattle.std.proofs.Common.{◌≡◌, take}
use Rattle.tetri_state.proofs.launches.ordered.Given as goal

abbrev pub invariant-loop-grant : goal.invariant-loop-grant
invariant-loop-grant l = l.copy ≡ take l.grant-index l.grants
