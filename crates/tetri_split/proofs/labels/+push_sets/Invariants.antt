use Rattle.std.proofs.Common.{◌≡◌, ◌++◌, drop, map}
use Rattle.std.specs.List.{filter}
use Rattle.tetri_strl.specs.Prune.{starts_in}
use Rattle.tetri_strl.specs.Tree.{leaves, leaves_of, tree, trees}
use Rattle.tetri_split.proofs.labels.+push_sets.Given as goal

abbrev pub invariant-loop-part : goal.invariant-loop-part
invariant-loop-part l = l.numbers.items ++ map (λ m. m.set) (filter (starts_in l.from l.to) (leaves_of (trees (drop l.part-index l.part-items)))) ≡
    l.fn.numbers.items ++ map (λ m. m.set) (filter (starts_in l.from l.to) (leaves (tree l.e)))
