-- Forms and limits with few and small numbers, and programs with small numbers.
use Rattle.std.specs.Prelude.{ℕ, ◌<◌, ◌≤◌, All, length, unsigned_abs}
use Rattle.tetri_strl.specs.WellMade.{PEAK}
use Rattle.tetri_ip.specs.declared.programs.Program.{Program}
use Rattle.tetri_ip.specs.declared.programs.Row.{Row}
use Rattle.tetri_base.specs.Lists.{Each}
use Rattle.tetri_compile.specs.Forms.{Form, Limit}

-- over n columns
pub record IsSmallForm (n : ℕ) (f : Form) : Type 0 where
  pub columns : Each (λ s. s.column < n) f
  pub numbers : Each (λ s. s.by ≤ PEAK) f
  pub few : length f ≤ n

pub record IsSmallLimit (n : ℕ) (r : Limit) : Type 0 where
  pub most : IsSmallForm n r.most
  pub under : IsSmallForm n r.under
  pub plus : r.plus ≤ PEAK

-- the coefficients and the right side of a row are at most 10^12 in size
pub record HasSmallRow (r : Row) : Type 0 where
  pub terms : All (λ t. unsigned_abs t.by ≤ PEAK) r.terms.items
  pub right : unsigned_abs r.right ≤ PEAK

-- each number of a program is at most 10^12 in size
pub record HasSmallNumbers (p : Program) : Type 0 where
  pub costs : All (λ z. unsigned_abs z ≤ PEAK) p.costs.items
  pub lower : All (λ z. unsigned_abs z ≤ PEAK) p.lower.items
  pub upper : All (λ z. unsigned_abs z ≤ PEAK) p.upper.items
  pub rows : All HasSmallRow p.rows.items
