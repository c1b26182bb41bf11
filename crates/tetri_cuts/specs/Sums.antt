-- The weighted sums of a program's rows.
use Rattle.std.specs.Prelude.{◌≡◌, List, All, None}
use Rattle.tetri_ip.specs.declared.programs.Program.{Program}
use Rattle.tetri_ip.specs.declared.programs.Weight.{Weight}
use Rattle.tetri_algebra.specs.Range.{IsWithin}
use Rattle.tetri_ip.specs.Weighed.{right_sum}
use Rattle.tetri_cuts.specs.declared.sums.Sums.{Sums}
use Rattle.tetri_cuts.specs.Cuts.{past_column, sums_from}

-- the sums are those of the weights over the program, and were formed in range
pub record AreSums (p : Program) (ws : List Weight) (s : Sums) : Type 0 where
  pub columns : s.columns.items ≡ sums_from p.rows.items ws 0 p.costs.items
  pub right : s.right ≡ right_sum p.rows.items ws
  pub columns_within : All IsWithin s.columns.items
  pub right_within : IsWithin s.right
  pub formed : past_column p ws ≡ None
