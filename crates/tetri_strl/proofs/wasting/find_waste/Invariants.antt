use Rattle.std.proofs.Common.{◌≡◌, drop}
use Rattle.std.specs.List.{position_from}
use Rattle.tetri_strl.specs.Tree.{tree}
use Rattle.tetri_strl.specs.Trim.{first_waste, idle, wastes}
use Rattle.tetri_strl.specs.Worth.{leaf_worth}
use Rattle.tetri_strl.proofs.wasting.find_waste.Given as goal

abbrev pub invariant-loop-place : goal.invariant-loop-place
invariant-loop-place l =
    position_from (wastes l.job (idle (leaf_worth l.grants l.job) (tree l.e))) l.place (drop l.place l.grants) ≡ first_waste l.grants l.job (tree l.e)
