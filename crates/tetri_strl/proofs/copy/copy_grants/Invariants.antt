use Rattle.std.proofs.Common.{◌≡◌, take}
use Rattle.tetri_strl.proofs.copy.copy_grants.Given as goal

abbrev pub invariant-loop-grant : goal.invariant-loop-grant
invariant-loop-grant l = l.made ≡ take l.grant-index l.grant-items
