-- Weights that bound a region by the objective of a point.
use Rattle.std.specs.Prelude.{List, pos, ◌≤ℤ◌, ◌<ℤ◌}
use Rattle.std.specs.Int.{int_div_euclid}
use lib.IntN.{ℤ}
use Rattle.tetri_ip.specs.declared.programs.Program.{Program}
use Rattle.tetri_ip.specs.declared.programs.Weight.{Weight}
use Rattle.tetri_ip.specs.Points.{Bounds}
use Rattle.tetri_ip.specs.Weighed.{weighed}
use Rattle.tetri_swift.specs.Weights.{IsWeighed}

-- the floor of the weighed number over q, which is above 0, is at most the number
pub record IsExact (p : Program) (b : Bounds) (q : ℤ) (ws : List Weight) (worth : ℤ) : Type 0 where
  pub weighed_is : IsWeighed p b q ws
  pub above : pos 0 <ℤ q
  pub floor : int_div_euclid (weighed p b q ws) q ≤ℤ worth
