-- The most that the columns of a program can earn.
use Rattle.std.specs.Prelude.{ℕ, ◌*◌, if◌then◌else◌, length, pos, unsigned_abs}
use Rattle.std.specs.List.{range_with_len}
use lib.Signed.{lt_z}
use Rattle.tetri_ip.specs.declared.programs.Program.{Program}
use Rattle.tetri_ip.specs.Points.{number_at}
use Rattle.tetri_base.specs.Lists.{sum_of}

-- a column's cost times its upper bound, where the cost is above 0
abbrev pub gain_at : Program → ℕ → ℕ
gain_at p j = if lt_z (pos 0) (number_at p.costs.items j) then unsigned_abs (number_at p.costs.items j) * unsigned_abs (number_at p.upper.items j) else 0

abbrev pub most_gain : Program → ℕ
most_gain p = sum_of (gain_at p) (range_with_len 0 (length p.costs.items))
