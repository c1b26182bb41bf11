-- The open nodes of a search lie in the program's box, and their marks pass the tests of a proper tree.
use Rattle.std.proofs.Common.{◌≡◌, ℕ, ◌<◌, refl, sym, ap, ◌∙◌, subst, arith, List, [], ◌∷◌, length, Bool, true, false, Option, Some, None, Result, Ok, Err}
use Rattle.std.specs.Prelude.{◌≤ℤ◌}
use Rattle.std.proofs.lemmas.Int.{ints}
use lib.IntN.{ℤ}
use Rattle.tetri_ip.specs.declared.programs.Program.{Program}
use Rattle.tetri_ip.specs.declared.programs.WeighFault.{WeighFault}
use Rattle.tetri_ip.specs.Forming.{weigh_answer}
use Rattle.tetri_ip.specs.Points.{Bounds, IsFit, IsInBox, box_of}
use Rattle.tetri_ip.proofs.IntegerProgramLaws.{answer_is_weighed}
use Rattle.tetri_simplex.specs.Certificates.{Certifies}
use Rattle.tetri_simplex.specs.Ends.{End, best, cut, empty, past, long}
use Rattle.tetri_simplex.specs.Machine.{machine}
use Rattle.tetri_simplex.proofs.DualRunLaws.{machine_certified}
use Rattle.tetri_cert.specs.declared.marks.Mark.{Mark}
use Rattle.tetri_cert.specs.declared.marks.Mark.TheVariants.{Split, Close, Whole, Rest}
use Rattle.tetri_cert.specs.Cells.{point_of}
use Rattle.tetri_cert.specs.NodeBounds.{HasSides}
use Rattle.tetri_cert.proofs.TreeBoundLaws.{high_in_box, in_program_box, IsSound, low_in_box}
use Rattle.tetri_search.specs.declared.branches.Branch.{Branch}
use Rattle.tetri_search.specs.declared.duals.Dual.{Dual}
use Rattle.tetri_search.specs.Table.{Node, rest_by, rest_mark, table, unfixed_from}
use Rattle.tetri_search.specs.Follow.{dual_by, dual_of, dual_or, open_behind, own_dual}
use Rattle.tetri_search.specs.Nodes.{AreOpen, IfDual, IsWholePoint}
use Rattle.tetri_search.proofs.WorkedLemmas.{none_proper, proper_above, worked}

-- ---- weights of nodes above
end_dual : (p : Program) (b : Bounds) (known : ℕ) (e : End) → Certifies p b known e → IfDual p (dual_of e)
end_dual p b known (best point q ws) z = record {
  rows = z.weights.rows;
  ascending = z.weights.ascending;
  signs = z.weights.signs;
  nonzero = z.weights.nonzero;
  in_range = z.weights.in_range;
  multiplier = z.multiplier;
  multiplier_in_range = z.weights.multiplier_in_range;
}
end_dual p b known (cut q ws) z = tt
end_dual p b known (empty ws) z = tt
end_dual p b known (past place) z = tt
end_dual p b known long z = tt

pub own_dual_is : (p : Program) (b : Bounds) (known : ℕ) → IsInBox p b → IfDual p (own_dual p b known)
unfolding own_dual
own_dual_is p b known h = by_column (unfixed_from 0 b.lower b.upper)
  where
    by_column : (o : Option Branch) → IfDual p (dual_by o p b known)
    by_column None = tt
    by_column (Some c) = end_dual p b known (machine p b known) (machine_certified p b known h)

pub dual_or_is : (p : Program) (own above : Option Dual) → IfDual p own → IfDual p above → IfDual p (dual_or own above)
dual_or_is p None above h k = k
dual_or_is p (Some d) above h k = h

-- ---- marks
pub rest_sound : (p : Program) (b : Bounds) (above : Option Dual) → IsFit p → IsInBox p b → IfDual p above → IsSound p b (rest_mark p b above)
unfolding rest_mark
rest_sound p b None f h d = none_proper p b f h
rest_sound p b (Some w) f h d = by_answer (weigh_answer p b w.q w.weights) refl
  where
    by_answer : (r : Result ℤ WeighFault) → weigh_answer p b w.q w.weights ≡ r → IsSound p b (rest_by w r)
    by_answer (Ok z) e = proper_above p b w.q w.weights d.rows d.signs d.multiplier (e ∙ ap Ok (answer_is_weighed p b w.q w.weights z e))
    by_answer (Err e) g = none_proper p b f h

pub mark_sound : (p : Program) (n : Node) (known : ℕ) (t : Bool) → IsFit p → IsInBox p n.region → IfDual p n.dual → IsSound p n.region (table p n known t)
unfolding table
mark_sound p n known true f h d = (worked p n.region known f h).sound
mark_sound p n known false f h d = rest_sound p n.region n.dual f h d

pub sound_sides : (p : Program) (b : Bounds) (m : Mark) → IsInBox p b → IsSound p b m → HasSides b m
sound_sides p b (Split j at licence) h s = (subst (λ n. j < n) (sym h.lower_count) s.0, s.1, s.2)
sound_sides p b (Close q ws) h s = tt
sound_sides p b (Whole q ws worth cells) h s = tt
sound_sides p b (Rest q ws) h s = tt

-- ---- the nodes below
pub open_behind_is : (p : Program) (n : Node) (ns : List Node) (d : Option Dual) (m : Mark) → IsInBox p n.region → AreOpen p ns → IfDual p d → IsSound p n.region m → AreOpen p (open_behind n d m ns)
open_behind_is p n ns d (Split j at licence) h a k s = (high_in_box p n.region j at h s.1 s.2, k, (low_in_box p n.region j at h s.1 s.2, k, a))
open_behind_is p n ns d (Close q ws) h a k s = a
open_behind_is p n ns d (Whole q ws worth cells) h a k s = a
open_behind_is p n ns d (Rest q ws) h a k s = a

box_in_box : (p : Program) → IsFit p → IsInBox p (box_of p)
box_in_box p f = record { lower_count = f.lower_count; upper_count = f.upper_count; above = λ k l. least _; ordered = f.ordered; below = λ k l. least _ }
  where
    least : (z : ℤ) → z ≤ℤ z
    least z = omega (arith, ints)

pub first_open : (p : Program) → IsFit p → AreOpen p (record { region = box_of p; dual = None } ∷ [])
first_open p f = (box_in_box p f, tt, tt)

-- ---- whole points
pub sound_whole : (p : Program) (b : Bounds) (m : Mark) → IsInBox p b → IsSound p b m → IsWholePoint p m
sound_whole p b (Split j at licence) h s = tt
sound_whole p b (Close q ws) h s = tt
sound_whole p b (Whole q ws worth cells) h s =
    (s.1.columns, record { count = s.1.point.count; inside = in_program_box p b (point_of (length p.costs.items) cells) h s.1.point; met = s.1.point.met }, s.1.worth_is)
sound_whole p b (Rest q ws) h s = tt
