use Rattle.std.proofs.Common.{◌≡◌, ◌∷◌, ◌++◌, take, string_bytes}
use Rattle.std.specs.Prelude.{flat_map}
use Rattle.tetri_cert.specs.Pairs.{cell_text}
use Rattle.tetri_cert.proofs.lists.add_cells.Given as goal

abbrev pub invariant-loop-cell : goal.invariant-loop-cell
invariant-loop-cell l = string_bytes l.out ≡ string_bytes l.initial.out ++ flat_map (λ f. 44 ∷ cell_text f) (take l.cell-index l.others)
