use Rattle.std.proofs.Common.{◌≡◌, ◌++◌, map, take}
use Rattle.std.specs.Prelude.{flat_map}
use Rattle.tetri_workload.specs.Telling.{reject_text}
use Rattle.tetri_workload.proofs.telling.add_rejects.Given as goal

abbrev pub invariant-loop-reject : goal.invariant-loop-reject
invariant-loop-reject l = l.text.items ≡ l.initial.text.items ++ flat_map (reject_text (map (λ x. x.now) l.lines)) (take l.reject-index l.left)
