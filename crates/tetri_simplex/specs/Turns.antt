-- What the code's steps say of a run.
use Rattle.std.specs.Prelude.{◌≡◌, ℕ, ◌+◌, ◌-◌, ◌<◌, length}
use Rattle.tetri_ip.specs.declared.programs.Program.{Program}
use Rattle.tetri_ip.specs.Points.{Bounds}
use Rattle.tetri_simplex.specs.declared.run.Decision as Code
use Rattle.tetri_simplex.specs.declared.run.Decision.TheVariants.{Ends, Leaves}
use Rattle.tetri_dictionary.specs.Tables.{Table}
use Rattle.tetri_simplex.specs.Machine.{Turn, ends, leaves, run}
use Rattle.tetri_simplex.specs.Outcomes.{end_of}

abbrev pub turn_of : Code.Decision → Turn
turn_of (Ends o) = ends (end_of o)
turn_of (Leaves i) = leaves i

-- a place that leaves is below n
abbrev pub LeavesWithin : ℕ → Code.Decision → Type 0
LeavesWithin n (Ends o) = Unit {0}
LeavesWithin n (Leaves i) = i < n

-- a place for each column, and one for each row's slack and each column's
pub record HasPlaces (p : Program) (t : Table) : Type 0 where
  pub columns : length t.nonbasic ≡ length p.costs.items
  pub places : length t.basic ≡ length p.rows.items + length p.costs.items

-- the run from the next table, with one more pivot made, ends as that from this one
pub record GoesOn (p : Program) (b : Bounds) (known step : ℕ) (t u : Table) : Type 0 where
  pub more : step < 10000
  pub places : HasPlaces p u
  pub same : run p b known (10000 - step) step t ≡ run p b known (10000 - (step + 1)) (step + 1) u
