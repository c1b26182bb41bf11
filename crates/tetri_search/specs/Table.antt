-- The mark of each node of a search by branch and bound.
use Rattle.std.specs.Prelude.{ℕ, ◌+◌, ◌==◌, List, [], ◌∷◌, Bool, true, false, if◌then◌else◌, Option, Some, None, Result, Ok, Err, ◌+ℤ◌, ◌-ℤ◌, pos}
use Rattle.std.specs.Int.{int_div_euclid}
use lib.IntN.{ℤ}
use lib.Signed.{lt_z, le_z}
use Rattle.tetri_algebra.specs.Rational.{ℚ}
use Rattle.tetri_algebra.specs.RationalOrder.{floor_ℚ}
use Rattle.tetri_ip.specs.declared.programs.Program.{Program}
use Rattle.tetri_ip.specs.declared.programs.Weight.{Weight}
use Rattle.tetri_ip.specs.declared.programs.WeighFault.{WeighFault}
use Rattle.tetri_ip.specs.Forming.{weigh_answer}
use Rattle.tetri_ip.specs.Points.{Bounds, first_unmet_from, objective}
use Rattle.tetri_ip.specs.Weighed.{once}
use Rattle.tetri_simplex.specs.Ends.{End, best, cut, empty, past, long}
use Rattle.tetri_simplex.specs.Machine.{machine}
use Rattle.tetri_simplex.specs.Relaxation.{numerators}
use Rattle.tetri_cert.specs.declared.marks.Mark.{Mark}
use Rattle.tetri_cert.specs.declared.marks.Mark.TheVariants.{Split, Close, Whole, Rest}
use Rattle.tetri_cert.specs.declared.marks.Licence.TheVariants as licences
use Rattle.tetri_cert.specs.Cells.{cells_of, frac_cells_of}
use Rattle.tetri_search.specs.declared.branches.Branch.{Branch}
use Rattle.tetri_search.specs.declared.duals.Dual.{Dual}

-- the least column, counted from j on, that has more than one number, and the middle of its bounds, rounded down
abbrev pub unfixed_from : ℕ → List ℤ → List ℤ → Option Branch
unfixed_from j [] us = None
unfixed_from j (l ∷ ls) [] = None
unfixed_from j (l ∷ ls) (u ∷ us) =
    if lt_z l u then Some (record { column = j; at = l +ℤ int_div_euclid (u -ℤ l) (pos 2) }) else unfixed_from (j + 1) ls us

-- the least column, counted from j on, whose number is not whole, and that number's floor
abbrev pub fractional_from : ℕ → List ℚ → Option Branch
fractional_from j [] = None
fractional_from j (x ∷ xs) = if x.den == 1 then fractional_from (j + 1) xs else Some (record { column = j; at = floor_ℚ x })

-- ---- a region of one point
-- the point is broken by a row, or is no better than the best objective known, or is a better point
abbrev pub single_by : Option ℕ → Program → List ℤ → ℕ → Mark
single_by (Some i) p point known = Close (pos 0) (once i)
single_by None p point known =
    if le_z (objective p point) (pos known) then Close (pos 1) [] else Whole (pos 1) [] (objective p point) (cells_of point)

abbrev pub single_mark : Program → Bounds → ℕ → Mark
single_mark p b known = single_by (first_unmet_from 0 p.rows.items b.lower) p b.lower known

-- ---- any other region, by the end of its run of the dual simplex method
-- a best point: split where it is not whole
abbrev pub best_by : Option Branch → Program → List ℚ → ℤ → List Weight → Mark
best_by None p point q ws = Whole q ws (objective p (numerators point)) (cells_of (numerators point))
best_by (Some c) p point q ws = Split c.column c.at (licences.Point (frac_cells_of point))

-- by the branch to be taken where the run gives none
abbrev pub end_mark : Program → Branch → End → Mark
end_mark p c (best point q ws) = best_by (fractional_from 0 point) p point q ws
end_mark p c (cut q ws) = Close q ws
end_mark p c (empty ws) = Close (pos 0) ws
end_mark p c (past place) = Split c.column c.at (licences.Past place)
end_mark p c long = Split c.column c.at licences.Long

-- ---- the mark of a node that is worked
abbrev pub worked_by : Option Branch → Program → Bounds → ℕ → Mark
worked_by None p b known = single_mark p b known
worked_by (Some c) p b known = end_mark p c (machine p b known)

unfoldable pub worked_mark : Program → Bounds → ℕ → Mark
worked_mark p b known = worked_by (unfixed_from 0 b.lower b.upper) p b known

-- ---- the mark of a node that is left open
abbrev pub rest_by : Dual → Result ℤ WeighFault → Mark
rest_by d (Ok z) = Rest d.q d.weights
rest_by d (Err e) = Rest (pos 1) []

-- the weights of the nearest node above whose run ended at a best point, where weighing with them stays in range
unfoldable pub rest_mark : Program → Bounds → Option Dual → Mark
rest_mark p b None = Rest (pos 1) []
rest_mark p b (Some d) = rest_by d (weigh_answer p b d.q d.weights)

-- ---- an open node
pub record Node : Type 0 where
  pub region : Bounds
  pub dual : Option Dual

-- the mark of an open node, by the best objective known and whether the budget is not spent
unfoldable pub table : Program → Node → ℕ → Bool → Mark
table p n known true = worked_mark p n.region known
table p n known false = rest_mark p n.region n.dual
