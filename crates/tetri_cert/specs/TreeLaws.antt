-- What a tree's bound says of the program's points.
use Rattle.std.specs.Prelude.{◌≡◌, ℕ, ◌-◌, ◌^◌, ◌<◌, ◌⊎◌, List, Ok, pos, ◌≤ℤ◌}
use lib.IntN.{ℤ}
use Rattle.tetri_ip.specs.declared.programs.Program.{Program}
use Rattle.tetri_ip.specs.Points.{IsPoint, box_of, objective}
use Rattle.tetri_cert.specs.declared.marks.Mark.{Mark}
use Rattle.tetri_cert.specs.Trees.{tree_bound}

-- no point of the program has an objective above the number
abbrev pub BoundsPoints : Program → ℕ → Type 0
BoundsPoints p t = (point : List ℤ) → IsPoint p (box_of p) point → objective p point ≤ℤ pos t

abbrev pub TreeBoundHolds : Type 0
TreeBoundHolds = (p : Program) (marks : List Mark) (t : ℕ) → tree_bound p marks ≡ Ok t → (t < 2 ^ 64 - 1) ⊎ BoundsPoints p (2 ^ 64 - 1) → BoundsPoints p t
