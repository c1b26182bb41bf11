-- The counts of a point.
use Rattle.std.specs.Prelude.{ℕ, ◌<◌, ◌==◌, if◌then◌else◌, List, [], ◌∷◌, length, map, pos, ◌≤ℤ◌, unsigned_abs}
use lib.IntN.{ℤ}
use Rattle.tetri_ip.specs.declared.programs.Program.{Program}
use Rattle.tetri_ip.specs.Points.{number_at}
use Rattle.tetri_base.specs.Lists.{Each, Ascends}
use Rattle.tetri_compile.specs.declared.compiling.Count.{Count}
use Rattle.tetri_compile.specs.declared.taking.Taken.{Taken}

-- the counts ascend by column, and each is a column of the program from 0 to 4096
pub record AreCountsOf (p : Program) (cs : List Count) : Type 0 where
  pub ascending : Ascends (map (λ c. c.column) cs)
  pub columns : Each (λ c. c.column < length p.costs.items) cs
  pub lower : Each (λ c. pos 0 ≤ℤ number_at p.lower.items c.column) cs
  pub upper : Each (λ c. number_at p.upper.items c.column ≤ℤ pos 4096) cs

abbrev pub taken : Count → ℕ → Taken
taken c n = record { job = c.job; leaf = c.leaf; part = c.part; nodes = n }

-- the counts above 0 at a point, in the order of the columns
abbrev pub taken_at : List ℤ → List Count → List Taken
taken_at point [] = []
taken_at point (c ∷ cs) =
    if unsigned_abs (number_at point c.column) == 0 then taken_at point cs
    else taken c (unsigned_abs (number_at point c.column)) ∷ taken_at point cs
