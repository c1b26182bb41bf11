-- Programs that say the same.
use Rattle.std.specs.Prelude.{◌≡◌, ℕ, List, length}
use Rattle.tetri_ip.specs.declared.programs.Program.{Program}
use Rattle.tetri_ip.specs.declared.programs.Row.{Row}
use Rattle.tetri_ip.specs.Points.{right_of, terms_of}

-- the same terms and the same right side in each row
pub record SameRows (rows others : List Row) : Type 0 where
  pub count : length rows ≡ length others
  pub terms : (k : ℕ) → terms_of rows k ≡ terms_of others k
  pub rights : (k : ℕ) → right_of rows k ≡ right_of others k

pub record SaysSame (p q : Program) : Type 0 where
  pub costs : p.costs.items ≡ q.costs.items
  pub lower : p.lower.items ≡ q.lower.items
  pub upper : p.upper.items ≡ q.upper.items
  pub rows : SameRows p.rows.items q.rows.items
