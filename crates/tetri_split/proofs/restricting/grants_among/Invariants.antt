use Rattle.std.proofs.Common.{◌≡◌, ◌++◌, drop}
use Rattle.tetri_base.specs.Lists.{has}
use Rattle.tetri_split.specs.Restricted.{grants_to}
use Rattle.tetri_split.proofs.restricting.grants_among.Given as goal

abbrev pub invariant-loop-grant : goal.invariant-loop-grant
invariant-loop-grant l = l.kept ++ grants_to (has l.jobs) (drop l.grant-index l.grant-items) ≡ grants_to (has l.jobs) l.grant-items
