-- Weights that a mark may have, and what they bound.
use Rattle.std.specs.Prelude.{◌≡◌, ℕ, ◌+◌, ◌<◌, ◌≤◌, List, [], ◌∷◌, length, Ok, pos, ◌≤ℤ◌, ◌<ℤ◌}
use Rattle.std.specs.Int.{int_div_euclid}
use lib.IntN.{ℤ}
use Rattle.tetri_algebra.specs.Range.{IsWithin}
use Rattle.tetri_ip.specs.declared.programs.Program.{Program}
use Rattle.tetri_ip.specs.declared.programs.Weight.{Weight}
use Rattle.tetri_ip.specs.Forming.{weigh_answer}
use Rattle.tetri_ip.specs.Points.{Bounds}
use Rattle.tetri_ip.specs.Weighed.{weighed}

-- the weights ascend by row from a row on, each above 0 and in range, and of one of the first rows
abbrev pub Climb : ℕ → ℕ → List Weight → Type 0
Climb rows least [] = Unit {0}
Climb rows least (w ∷ ws) =
    (least ≤ w.row) × (w.row < rows) × (pos 0 <ℤ w.by) × IsWithin w.by × Climb rows (w.row + 1) ws

-- weights and a multiplier whose weighed number is formed over the region
pub record IsWeighed (p : Program) (b : Bounds) (q : ℤ) (ws : List Weight) : Type 0 where
  pub climb : Climb (length p.rows.items) 0 ws
  pub over : pos 0 ≤ℤ q
  pub in_range : IsWithin q
  pub formed : weigh_answer p b q ws ≡ Ok (weighed p b q ws)

-- the floor of the weighed number over q is at most the number; below 0 where q is 0
pub record IsAtMost (q weighed : ℤ) (most : ℕ) : Type 0 where
  pub empty : q ≡ pos 0 → weighed <ℤ pos 0
  pub floor : pos 0 <ℤ q → int_div_euclid weighed q ≤ℤ pos most

-- the weights bound the region by a number, or show that it has no point
pub record IsBounded (p : Program) (b : Bounds) (q : ℤ) (ws : List Weight) (most : ℕ) : Type 0 where
  pub weighed_is : IsWeighed p b q ws
  pub at_most : IsAtMost q (weighed p b q ws) most
