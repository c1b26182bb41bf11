use Rattle.std.proofs.Common.{◌≡◌, ◌++◌, drop}
use Rattle.tetri_space.specs.Space.{space}
use Rattle.tetri_state.specs.Planning.{still_pending}
use Rattle.tetri_state.proofs.carrying.still_pending.Given as goal

abbrev pub invariant-loop-grant : goal.invariant-loop-grant
invariant-loop-grant l = l.kept ++ still_pending (space l.inst) (drop l.grant-index l.grants) ≡ still_pending (space l.inst) l.grants
