use Rattle.std.proofs.Common.{◌≡◌, ◌∷◌, ◌++◌, take, string_bytes}
use Rattle.std.specs.Prelude.{flat_map}
use Rattle.tetri_cert.specs.Pairs.{weight_text}
use Rattle.tetri_cert.proofs.lists.print_weights.Given as goal

abbrev pub invariant-loop-weight : goal.invariant-loop-weight
invariant-loop-weight l = string_bytes l.out ≡ string_bytes l.initial.out ++ flat_map (λ f. 44 ∷ weight_text f) (take l.weight-index l.others)
