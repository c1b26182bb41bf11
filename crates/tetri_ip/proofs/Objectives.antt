-- The objective at a point in the box stays in range.
use Rattle.std.proofs.Common.{◌≡◌, ℕ, ◌+◌, ◌*◌, ◌^◌, ◌<◌, ◌≤◌, sym, ap, ◌∙◌, subst, arith, List, length, drop}
use Rattle.std.specs.Prelude.{unsigned_abs}
use Rattle.std.proofs.Math.Nat.{mul-le-mul_left}
use Rattle.std.proofs.lemmas.List.{at_drop_all, drop_more}
use Rattle.std.proofs.lemmas.Int.{ints, to_z-of_z, unsigned_abs-mul}
use lib.IntN.{ℤ, pos, ◌+ℤ◌, ◌*ℤ◌}
use mir.Val.{SFits, to_z, of_z}
use mir.Syntax.{w128}
use Rattle.tetri_algebra.specs.IntegerRing.{ℤ_ring}
use Rattle.tetri_algebra.specs.Sums.{dot}
use Rattle.tetri_ip.specs.declared.programs.Program.{Program}
use Rattle.tetri_ip.specs.Points.{IsBetween, cost_reach, number_at, size_at}
use Rattle.tetri_ip.proofs.Sides.{AddsTerm, add_part, size_between}

adds_cost : (p : Program) (point : List ℤ) (j : ℕ) (sum whole a x : ℤ) → IsBetween (length p.costs.items) p.lower.items point p.upper.items → length point ≡ length p.costs.items → j < length p.costs.items → a ≡ number_at p.costs.items j → x ≡ number_at point j →
    unsigned_abs sum + cost_reach p j (drop j p.costs.items) < 2 ^ 127 → sum +ℤ dot ℤ_ring (drop j p.costs.items) (drop j point) ≡ whole →
    AddsTerm sum (a *ℤ x) (cost_reach p (j + 1) (drop (j + 1) p.costs.items)) (dot ℤ_ring (drop (j + 1) p.costs.items) (drop (j + 1) point)) whole
adds_cost p point j sum whole a x s count h ae xe r v =
    let cs = p.costs.items in
    let m = s j h in
    let size = mul-le-mul_left (unsigned_abs (number_at cs j)) (size_between (number_at p.lower.items j) (number_at point j) (number_at p.upper.items j) m.0 m.1) in
    let l : j < length point = omega arith in
    let more = drop_more cs j (pos 0) h in
    let pe : number_at cs j *ℤ number_at point j ≡ a *ℤ x = cc in
    add_part sum (a *ℤ x) (unsigned_abs (number_at cs j) * size_at p j) (cost_reach p (j + 1) (drop (j + 1) cs)) (dot ℤ_ring (drop (j + 1) cs) (drop (j + 1) point)) whole
    (subst (λ z. unsigned_abs z ≤ unsigned_abs (number_at cs j) * size_at p j) pe (rw unsigned_abs-mul size))
    (rw more at r)
    (ap (λ z. sum +ℤ (z +ℤ dot ℤ_ring (drop (j + 1) cs) (drop (j + 1) point))) (sym pe) ∙ (rw (more, drop_more point j (pos 0) l) at v))

-- what one more column leaves of the sum, as the code reads it
pub record AddsCost (p : Program) (point : List ℤ) (j : ℕ) (part next whole : ℤ) : Type 0 where
  pub part_fits : SFits w128 part
  pub sum_fits : SFits w128 next
  pub in_range : unsigned_abs (to_z w128 (of_z w128 next)) + cost_reach p (j + 1) (drop (j + 1) p.costs.items) < 2 ^ 127
  pub value : to_z w128 (of_z w128 next) +ℤ dot ℤ_ring (drop (j + 1) p.costs.items) (drop (j + 1) point) ≡ whole

pub cost_added : (p : Program) (point : List ℤ) (j : ℕ) (sum whole a x : ℤ) → IsBetween (length p.costs.items) p.lower.items point p.upper.items → length point ≡ length p.costs.items → j < length p.costs.items → a ≡ number_at p.costs.items j → x ≡ number_at point j →
    unsigned_abs sum + cost_reach p j (drop j p.costs.items) < 2 ^ 127 → sum +ℤ dot ℤ_ring (drop j p.costs.items) (drop j point) ≡ whole →
    AddsCost p point j (a *ℤ x) (sum +ℤ to_z w128 (of_z w128 (a *ℤ x))) whole
cost_added p point j sum whole a x s count h ae xe r v =
    let t = adds_cost p point j sum whole a x s count h ae xe r v in
    rw (to_z-of_z w128 (a *ℤ x) t.part_fits) record {
      part_fits = t.part_fits;
      sum_fits = t.sum_fits;
      in_range = rw (to_z-of_z w128 (sum +ℤ a *ℤ x) t.sum_fits) t.in_range;
      value = rw (to_z-of_z w128 (sum +ℤ a *ℤ x) t.sum_fits) t.value;
    }

pub objective_end : (p : Program) (point : List ℤ) (j : ℕ) (sum whole : ℤ) → length p.costs.items ≤ j → sum +ℤ dot ℤ_ring (drop j p.costs.items) (drop j point) ≡ whole → sum ≡ whole
objective_end p point j sum whole h v = plus_zero sum ∙ sym (at_drop_all (λ (cs : List ℤ). sum +ℤ dot ℤ_ring cs (drop j point)) p.costs.items j h) ∙ v
  where
    plus_zero : (a : ℤ) → a ≡ a +ℤ pos 0
    plus_zero a = omega (arith, ints)
