use Rattle.std.proofs.Common.{◌≡◌, ◌==◌, ◌++◌, cond, drop, map, take}
use Rattle.tetri_split.proofs.labels.rename.Given as goal

abbrev pub invariant-loop-label : goal.invariant-loop-label
invariant-loop-label l = l.labels ≡ map (λ x. cond (x == l.lost) l.kept x) (take l.label-index l.initial.labels) ++ drop l.label-index l.initial.labels
