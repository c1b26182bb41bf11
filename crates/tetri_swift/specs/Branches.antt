-- The columns at which a region can be split.
use Rattle.std.specs.Prelude.{◌<◌, length, ◌≤ℤ◌, ◌<ℤ◌}
use Rattle.tetri_ip.specs.declared.programs.Program.{Program}
use Rattle.tetri_ip.specs.Points.{Bounds, number_at}
use Rattle.tetri_swift.specs.declared.single.Branch.{Branch}

-- the column is one of the program, and has numbers on both sides
pub record IsOpen (p : Program) (b : Bounds) (c : Branch) : Type 0 where
  pub column_is : c.column < length p.costs.items
  pub low : number_at b.lower c.column ≤ℤ c.at
  pub high : c.at <ℤ number_at b.upper c.column
