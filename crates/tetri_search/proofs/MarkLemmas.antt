-- A worked node's mark is no rest, and a node that is left open has a rest.
use Rattle.std.proofs.Common.{◌≡◌, ℕ, refl, sym, ap, ◌∙◌, List, [], Bool, true, false, cond, Option, Some, None, Result, Ok, Err}
use Rattle.std.proofs.lemmas.Bool.{false≢true}
use lib.IntN.{ℤ, pos}
use lib.Signed.{le_z}
use Rattle.tetri_algebra.specs.Rational.{ℚ}
use Rattle.tetri_ip.specs.declared.programs.Program.{Program}
use Rattle.tetri_ip.specs.declared.programs.Weight.{Weight}
use Rattle.tetri_ip.specs.declared.programs.WeighFault.{WeighFault}
use Rattle.tetri_ip.specs.Forming.{weigh_answer}
use Rattle.tetri_ip.specs.Points.{Bounds, first_unmet_from, objective}
use Rattle.tetri_simplex.specs.Ends.{End, best, cut, empty, past, long}
use Rattle.tetri_simplex.specs.Machine.{machine}
use Rattle.tetri_cert.specs.declared.marks.Mark.{Mark}
use Rattle.tetri_cert.specs.declared.marks.Mark.TheVariants.{Split, Close, Whole, Rest}
use Rattle.tetri_cert.specs.Cells.{cells_of}
use Rattle.tetri_search.specs.declared.branches.Branch.{Branch}
use Rattle.tetri_search.specs.declared.duals.Dual.{Dual}
use Rattle.tetri_search.specs.Table.{Node, best_by, fractional_from, end_mark, rest_by, rest_mark, single_by, table, unfixed_from, worked_by, worked_mark}
use Rattle.tetri_search.specs.Laws.{is_rest}
use Rattle.tetri_search.specs.Views.{IfSplit}

best_written : (o : Option Branch) (p : Program) (point : List ℚ) (q : ℤ) (ws : List Weight) → is_rest (best_by o p point q ws) ≡ false
best_written None p point q ws = refl
best_written (Some c) p point q ws = refl

end_written : (p : Program) (c : Branch) (e : End) → is_rest (end_mark p c e) ≡ false
end_written p c (best point q ws) = best_written (fractional_from 0 point) p point q ws
end_written p c (cut q ws) = refl
end_written p c (empty ws) = refl
end_written p c (past place) = refl
end_written p c long = refl

single_written : (o : Option ℕ) (p : Program) (point : List ℤ) (known : ℕ) → is_rest (single_by o p point known) ≡ false
single_written (Some i) p point known = refl
single_written None p point known = by_test (le_z (objective p point) (pos known))
  where
    by_test : (t : Bool) → is_rest (cond t (Close (pos 1) []) (Whole (pos 1) [] (objective p point) (cells_of point))) ≡ false
    by_test true = refl
    by_test false = refl

worked_by_written : (o : Option Branch) (p : Program) (b : Bounds) (known : ℕ) → is_rest (worked_by o p b known) ≡ false
worked_by_written None p b known = single_written (first_unmet_from 0 p.rows.items b.lower) p b.lower known
worked_by_written (Some c) p b known = end_written p c (machine p b known)

pub worked_written : (p : Program) (b : Bounds) (known : ℕ) → is_rest (worked_mark p b known) ≡ false
unfolding worked_mark
worked_written p b known = worked_by_written (unfixed_from 0 b.lower b.upper) p b known

rest_by_rest : (d : Dual) (r : Result ℤ WeighFault) → is_rest (rest_by d r) ≡ true
rest_by_rest d (Ok z) = refl
rest_by_rest d (Err e) = refl

pub rest_rest : (p : Program) (b : Bounds) (above : Option Dual) → is_rest (rest_mark p b above) ≡ true
unfolding rest_mark
rest_rest p b None = refl
rest_rest p b (Some d) = rest_by_rest d (weigh_answer p b d.q d.weights)

pub worked_is_no_rest : (t : Bool) (p : Program) (n : Node) (known : ℕ) (m : Mark) → t ≡ true → m ≡ table p n known t → is_rest m ≡ false
unfolding table
worked_is_no_rest true p n known m e w = ap is_rest w ∙ worked_written p n.region known
worked_is_no_rest false p n known m e w = absurd (false≢true e)

pub rest_is_rest : (t : Bool) (p : Program) (n : Node) (known : ℕ) (m : Mark) → t ≡ false → m ≡ table p n known t → is_rest m ≡ true
unfolding table
rest_is_rest true p n known m e w = absurd (false≢true (sym e))
rest_is_rest false p n known m e w = ap is_rest w ∙ rest_rest p n.region n.dual

pub if_rest : (m : Mark) (P : Type 0) → is_rest m ≡ true → IfSplit m P
if_rest (Split j at licence) P h = absurd (false≢true h)
if_rest (Close q ws) P h = tt
if_rest (Whole q ws worth cells) P h = tt
if_rest (Rest q ws) P h = tt
