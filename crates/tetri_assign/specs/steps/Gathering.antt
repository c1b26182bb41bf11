-- Grants of which the first is half made.
use Rattle.std.specs.Prelude.{ℕ, List, [], ◌∷◌, ◌++◌}
use Rattle.tetri_strl.specs.declared.grants.Grant.{Grant}
use Rattle.tetri_assign.specs.Assigned.{grant}

-- with these nodes in front of those of the first grant
abbrev pub with_open : List ℕ → List Grant → List Grant
with_open nodes [] = []
with_open nodes (g ∷ gs) = grant g.job g.leaf (nodes ++ g.nodes) ∷ gs
