-- A charged join is the join of its charged parts.
use Rattle.std.proofs.Common.{◌≡◌, ℕ, List, [], ◌∷◌, map, refl, ap}
use Rattle.tetri_strl.specs.Tree.{more, row, tree, trees}
use Rattle.tetri_strl.specs.declared.expr.Expr.{Expr}
use Rattle.tetri_delay.specs.declared.charge.Charge.{Charge}
use Rattle.tetri_delay.specs.Charge.{charged, charged_of}

pub charged_row : (c : Charge) (by : ℕ) (es : List Expr) → row (map (λ e. charged c by (tree e)) es) ≡ charged_of c by (trees es)
charged_row c by [] = refl
charged_row c by (e ∷ es) = ap (more (charged c by (tree e))) (charged_row c by es)
