-- The dual simplex method over bounded variables, with the least variable at each choice, as a run of full tables.
use Rattle.std.specs.Prelude.{ℕ, ◌+◌, cond, Option, Some, None, Result, Ok, Err}
use Prim.Native.Nat.{zero, suc}
use Rattle.tetri_algebra.specs.Rational.{ℚ}
use Rattle.tetri_num.specs.declared.places.Place.{Place}
use Rattle.tetri_ip.specs.declared.programs.Program.{Program}
use Rattle.tetri_ip.specs.Points.{Bounds}
use Rattle.tetri_dictionary.specs.Tables.{Table, row_at, coefficients_of}
use Rattle.tetri_base.specs.ResultSteps.{then_ok}
use Rattle.tetri_dictionary.specs.Start.{first_table}
use Rattle.tetri_dictionary.specs.Pivots.{pivoted}
use Rattle.tetri_dictionary.specs.Choices.{leaving, entering, has_positive}
use Rattle.tetri_simplex.specs.Ends.{End, best, cut, empty, past, long, is_cut, cut_end, best_end, empty_end}

-- what a table comes to: an end, or the basic place that leaves
pub data Turn : Type 0 where
  ends : End → Turn
  leaves : ℕ → Turn

abbrev pub by_leaving : Program → Bounds → Table → Option ℕ → Turn
by_leaving p b t None = ends (best_end p b t)
by_leaving p b t (Some i) = cond (has_positive (coefficients_of (row_at t i))) (leaves i) (ends (empty_end p b t i))

-- Cut where the objective is at most the best one known; Best where no constant is below 0; Empty where the leaving row has no coefficient above 0
unfoldable pub turn : Program → Bounds → ℕ → Table → Turn
turn p b known t = cond (is_cut t known) (ends (cut_end p b t)) (by_leaving p b t (leaving t))

abbrev pub by_entering : Table → ℕ → Option (ℕ × ℚ) → Result Table Place
by_entering t i None = Ok t
by_entering t i (Some found) = pivoted t i found.0

-- the table after the pivot on the leaving place i
unfoldable pub next : Table → ℕ → Result Table Place
next t i = then_ok (entering t i) (λ found. by_entering t i found)

-- the end of a table at a step
abbrev pub at_step : ℕ → End → End
at_step s (past e) = past (record e { step = s })
at_step s (best x q ws) = best x q ws
at_step s (cut q ws) = cut q ws
at_step s (empty ws) = empty ws
at_step s long = long

-- the end of a run from a table, with s pivots made and at most k more
unfoldable pub run : Program → Bounds → ℕ → ℕ → ℕ → Table → End
run p b known zero s t = elim (turn p b known t) [ ends e ↦ at_step s e | leaves i ↦ long ]
run p b known (suc k) s t =
    elim (turn p b known t) [
      | ends e ↦ at_step s e
      | leaves i ↦ elim (next t i) [ Err e ↦ past (record e { step = s }) | Ok u ↦ run p b known k (s + 1) u ]
    ]

-- the run from the first table, of at most 10,000 pivots
unfoldable pub machine : Program → Bounds → ℕ → End
machine p b known = run p b known 10000 0 (first_table p b)
