use Rattle.std.proofs.Common.{◌≡◌, ◌++◌, take}
use Rattle.tetri_split.specs.Parts.{in_a_row}
use Rattle.tetri_split.proofs.joining.join.Given as goal

abbrev pub invariant-loop-list : goal.invariant-loop-list
invariant-loop-list l = l.grants ≡ in_a_row (take l.list-index l.lists)

abbrev pub invariant-loop-grant : goal.invariant-loop-grant
invariant-loop-grant l = l.grants ≡ l.initial.grants ++ take l.grant-index l.grant-items
