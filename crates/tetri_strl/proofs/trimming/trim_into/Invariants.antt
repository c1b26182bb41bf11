use Rattle.std.proofs.Common.{◌≡◌, ◌++◌, drop}
use Rattle.std.specs.List.{filter}
use Rattle.tetri_strl.specs.Trim.{earns}
use Rattle.tetri_strl.proofs.trimming.trim_into.Given as goal

abbrev pub invariant-loop-grant : goal.invariant-loop-grant
invariant-loop-grant l = l.made ++ filter (earns l.job l.idle.items) (drop l.grant-index l.grants) ≡ l.fn.made ++ filter (earns l.job l.idle.items) l.grants
