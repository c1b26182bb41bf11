-- The tree of a search by any engine: each mark may be written at the next open region.
use Rattle.std.specs.Prelude.{ℕ, List, [], ◌∷◌, nat_lt}
use Rattle.tetri_ip.specs.declared.programs.Program.{Program}
use Rattle.tetri_ip.specs.Points.{Bounds}
use Rattle.tetri_cert.specs.declared.marks.Mark.{Mark}
use Rattle.tetri_cert.specs.NodeBounds.{sides_before}
use Rattle.tetri_search.specs.Follow.{best_after, used_after}
use Rattle.tetri_swift.specs.Nodes.{IsFair}

-- the marks are the rest of a search with these open regions in order, the best objective known
-- and the number of marks used, and leave no region open
abbrev pub Follows : Program → ℕ → List Bounds → ℕ → ℕ → List Mark → Type 0
Follows p budget [] known used [] = Unit {0}
Follows p budget [] known used (m ∷ ms) = ⊥
Follows p budget (b ∷ bs) known used [] = ⊥
Follows p budget (b ∷ bs) known used (m ∷ ms) =
    IsFair p b known (nat_lt used budget) m
    × Follows p budget (sides_before b m bs) (best_after known m) (used_after used m) ms
