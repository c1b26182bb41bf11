-- What the mark of a worked node says of its region.
use Rattle.std.proofs.Common.{◌≡◌, ℕ, ◌<◌, ◌≤◌, max, refl, sym, ap, ◌∙◌, subst, arith, List, [], length, cond, Bool, true, false, Option, Some, None, Ok}
use Rattle.std.specs.Prelude.{◌≤ℤ◌, ◌<ℤ◌}
use Rattle.std.specs.Int.{int_div_euclid}
use Rattle.std.specs.List.{All}
use Rattle.std.proofs.lemmas.Int.{ints}
use Rattle.std.proofs.lemmas.List.Elements.{All-cons, All-nil}
use lib.IntN.{ℤ, pos, negsuc, ◌+ℤ◌, ◌-ℤ◌, ◌*ℤ◌}
use lib.Signed.{lt_z, le_z}
use Rattle.tetri_algebra.specs.Integers.{mul_le_cancel, mul_lt_cancel}
use Rattle.tetri_algebra.specs.Quotients.{div_above, div_below}
use Rattle.tetri_algebra.specs.Rational.{ℚ, whole_ℚ}
use Rattle.tetri_algebra.specs.RationalOrder.{floor_ℚ, floor_ℚ-whole_ℚ}
use Rattle.tetri_algebra.specs.RationalRing.{◌*ℚ◌, num-whole_ℚ, whole_ℚ-*ℤ}
use Rattle.tetri_ip.specs.declared.programs.Program.{Program}
use Rattle.tetri_ip.specs.declared.programs.Weight.{Weight}
use Rattle.tetri_ip.specs.Forming.{weigh_answer}
use Rattle.tetri_ip.specs.Points.{Bounds, IsFit, IsInBox, IsPoint, first_unmet_from, left_side, number_at, objective, right_of, terms_of}
use Rattle.tetri_ip.specs.Weighed.{AreNotNegative, AreOfRows, once, weighed}
use Rattle.tetri_ip.proofs.IntegerProgramLaws.{first_unmet_none, first_unmet_some, weigh_of_none, weigh_of_row, weighed_row_single, weighed_single}
use Rattle.tetri_simplex.specs.Certificates.{Certifies, CertifiesBest}
use Rattle.tetri_simplex.specs.Ends.{End, best, cut, empty, past, long}
use Rattle.tetri_simplex.specs.Machine.{machine}
use Rattle.tetri_simplex.specs.Relaxation.{IsWhole, numerators, objective_value}
use Rattle.tetri_simplex.proofs.DualRunLaws.{floor_between, machine_certified, whole_point, worth_same}
use Rattle.tetri_cert.specs.declared.marks.Cell.{Cell}
use Rattle.tetri_cert.specs.declared.marks.Mark.{Mark}
use Rattle.tetri_cert.specs.declared.marks.Mark.TheVariants.{Split, Close, Whole, Rest}
use Rattle.tetri_cert.specs.Cells.{cells_of, point_of}
use Rattle.tetri_cert.specs.NodeBounds.{capped}
use Rattle.tetri_cert.specs.ProperTrees.{AreProper, IsWorth, end_bound, floor_of}
use Rattle.tetri_cert.proofs.MarkLaws.{cells_of-columns, point_of-cells_of}
use Rattle.tetri_cert.proofs.TreeBoundLaws.{IsSound}
use Rattle.tetri_search.specs.declared.branches.Branch.{Branch}
use Rattle.tetri_search.specs.Table.{best_by, fractional_from, end_mark, single_by, unfixed_from, worked_by, worked_mark}
use Rattle.tetri_search.specs.Follow.{best_after, natural}
use Rattle.tetri_search.proofs.SplitLemmas.{IsFractional, IsUnfixed, fractional_is, none_fractional, none_unfixed, unfixed_is}

-- a whole point is better than the best objective known
abbrev pub IsBetter : ℕ → Mark → Type 0
IsBetter known (Split j at licence) = Unit {0}
IsBetter known (Close q ws) = Unit {0}
IsBetter known (Whole q ws worth cells) = pos known <ℤ worth
IsBetter known (Rest q ws) = Unit {0}

-- the mark passes its tests, and bounds its region by the best objective known behind it
pub record IsWorked (p : Program) (b : Bounds) (known : ℕ) (m : Mark) : Type 0 where
  pub sound : IsSound p b m
  pub at_most : end_bound p b m ≤ best_after known m
  pub better : IsBetter known m

-- ---- numbers
capped_at_most : (z : ℤ) (n : ℕ) → z ≤ℤ pos n → capped z ≤ n
capped_at_most (pos m) n h = omega (arith, ints)
capped_at_most (negsuc m) n h = omega arith

natural_above : (z : ℤ) (known : ℕ) → z ≤ℤ pos (max known (natural z))
natural_above (pos m) known = omega (arith, ints)
natural_above (negsuc m) known = omega (arith, ints)

by_one : (z : ℤ) → int_div_euclid z (pos 1) ≡ z
by_one z = between (int_div_euclid z (pos 1)) (div_below z (pos 1) one) (div_above z (pos 1) one)
  where
    one : pos 0 <ℤ pos 1
    one = omega (arith, ints)

    between : (q : ℤ) → (q *ℤ pos 1) ≤ℤ z → z <ℤ ((q +ℤ pos 1) *ℤ pos 1) → q ≡ z
    between q h k = omega (arith, ints)

-- the quotient of a product
exact : (q o : ℤ) → pos 0 <ℤ q → int_div_euclid (q *ℤ o) q ≡ o
exact q o h =
    let d = int_div_euclid (q *ℤ o) q in
    let low : d ≤ℤ o = mul_le_cancel q d o h (swapped (d *ℤ q) (q *ℤ o) (o *ℤ q) (turn q o) (div_below (q *ℤ o) q h)) in
    let high : o <ℤ (d +ℤ pos 1) = mul_lt_cancel q o (d +ℤ pos 1) h (swapped_lt (q *ℤ o) (o *ℤ q) ((d +ℤ pos 1) *ℤ q) (turn q o) (div_above (q *ℤ o) q h)) in
    same d o low high
  where
    turn : (a b : ℤ) → a *ℤ b ≡ b *ℤ a
    turn a b = omega (arith, ints)

    swapped : (x y z : ℤ) → y ≡ z → x ≤ℤ y → x ≤ℤ z
    swapped x y z e h = omega (arith, ints)

    swapped_lt : (x y z : ℤ) → x ≡ y → x <ℤ z → y <ℤ z
    swapped_lt x y z e h = omega (arith, ints)

    same : (x y : ℤ) → x ≤ℤ y → y <ℤ (x +ℤ pos 1) → x ≡ y
    same x y h k = omega (arith, ints)

above_zero : (q : ℤ) → pos 0 <ℤ q → lt_z (pos 0) q ≡ true
above_zero q h = grind (arith, ints)

floor_above_zero : (p : Program) (b : Bounds) (q : ℤ) (ws : List Weight) → pos 0 <ℤ q → floor_of p b q ws ≡ capped (int_div_euclid (weighed p b q ws) q)
floor_above_zero p b q ws h = ap (λ t. cond t (capped (int_div_euclid (weighed p b q ws) q)) 0) (above_zero q h)

pub proper_above : (p : Program) (b : Bounds) (q : ℤ) (ws : List Weight) → AreOfRows p ws → AreNotNegative ws → pos 0 <ℤ q → weigh_answer p b q ws ≡ Ok (weighed p b q ws) → AreProper p b q ws
proper_above p b q ws r s h f = record { rows = r; weights = s; over = weak q h; formed = f; empty = λ e. absurd (not_zero q h e) }
  where
    weak : (x : ℤ) → pos 0 <ℤ x → pos 0 ≤ℤ x
    weak x h = omega (arith, ints)

    not_zero : (x : ℤ) → pos 0 <ℤ x → x ≡ pos 0 → ⊥
    not_zero x h e = omega (arith, ints)

-- ---- a region of one point
once_rows : (p : Program) (i : ℕ) → i < length p.rows.items → AreOfRows p (once i)
once_rows p i h = All-cons (λ (w : Weight). w.row < length p.rows.items) (record { row = i; by = pos 1 }) [] h (All-nil (λ (w : Weight). w.row < length p.rows.items))

once_signs : (i : ℕ) → AreNotNegative (once i)
once_signs i = All-cons (λ (w : Weight). pos 0 ≤ℤ w.by) (record { row = i; by = pos 1 }) [] (omega (arith, ints)) (All-nil (λ (w : Weight). pos 0 ≤ℤ w.by))

none_rows : (p : Program) → AreOfRows p []
none_rows p = All-nil (λ (w : Weight). w.row < length p.rows.items)

none_signs : AreNotNegative []
none_signs = All-nil (λ (w : Weight). pos 0 ≤ℤ w.by)

one_above : pos 0 <ℤ pos 1
one_above = omega (arith, ints)

row_proper : (p : Program) (b : Bounds) (i : ℕ) → IsFit p → IsInBox p b → b.lower ≡ b.upper → i < length p.rows.items → right_of p.rows.items i <ℤ left_side (terms_of p.rows.items i) b.lower → AreProper p b (pos 0) (once i)
row_proper p b i f h s l u =
    record { rows = once_rows p i l; weights = once_signs i; over = omega (arith, ints); formed = weigh_of_row p b i f h l; empty = λ e. negative _ _ _ (weighed_row_single p b i h s) u }
  where
    negative : (w r l : ℤ) → w ≡ r -ℤ l → r <ℤ l → w <ℤ pos 0
    negative w r l e k = omega (arith, ints)

pub none_proper : (p : Program) (b : Bounds) → IsFit p → IsInBox p b → AreProper p b (pos 1) []
none_proper p b f h = proper_above p b (pos 1) [] (none_rows p) none_signs one_above (weigh_of_none p b f h)

none_floor : (p : Program) (b : Bounds) → IsInBox p b → b.lower ≡ b.upper → floor_of p b (pos 1) [] ≡ capped (objective p b.lower)
none_floor p b h s = floor_above_zero p b (pos 1) [] one_above ∙ ap capped (by_one (weighed p b (pos 1) []) ∙ weighed_single p b h s)

lower_is_point : (p : Program) (b : Bounds) → IsInBox p b → first_unmet_from 0 p.rows.items b.lower ≡ None → IsPoint p b b.lower
lower_is_point p b h e = record { count = h.lower_count; inside = λ k l. (least (number_at b.lower k), h.ordered k l); met = first_unmet_none 0 p.rows.items b.lower e }
  where
    least : (z : ℤ) → z ≤ℤ z
    least z = omega (arith, ints)

worth_of : (p : Program) (b : Bounds) (xs : List ℤ) → length xs ≡ length p.costs.items → IsPoint p b xs → IsWorth p b (objective p xs) (cells_of xs)
worth_of p b xs n i =
    let e : point_of (length p.costs.items) (cells_of xs) ≡ xs = ap (λ k. point_of k (cells_of xs)) (sym n) ∙ point_of-cells_of xs in
    record {
      columns = subst (λ k. All (λ (c : Cell). c.column < k) (cells_of xs)) n (cells_of-columns xs);
      point = subst (IsPoint p b) (sym e) i;
      worth_is = ap (objective p) (sym e);
    }

known_above : (x : ℤ) (known : ℕ) → le_z x (pos known) ≡ true → x ≤ℤ pos known
known_above x known h = grind (arith, ints)

known_below : (x : ℤ) (known : ℕ) → le_z x (pos known) ≡ false → pos known <ℤ x
known_below x known h = grind (arith, ints)

single_worked : (p : Program) (b : Bounds) (known : ℕ) → IsFit p → IsInBox p b → b.lower ≡ b.upper → (o : Option ℕ) → first_unmet_from 0 p.rows.items b.lower ≡ o → IsWorked p b known (single_by o p b.lower known)
single_worked p b known f h s (Some i) e =
    let u = first_unmet_some 0 p.rows.items b.lower i e in
    let n : u.place ≡ i = omega (arith, u.number) in
    record {
      sound = row_proper p b i f h s (subst (λ k. k < length p.rows.items) n u.in_list) (subst (λ k. right_of p.rows.items k <ℤ left_side (terms_of p.rows.items k) b.lower) n u.broken);
      at_most = omega arith;
      better = tt;
    }
single_worked p b known f h s None e = by_test (le_z (objective p b.lower) (pos known)) refl
  where
    by_test : (t : Bool) → le_z (objective p b.lower) (pos known) ≡ t → IsWorked p b known (cond t (Close (pos 1) []) (Whole (pos 1) [] (objective p b.lower) (cells_of b.lower)))
    by_test true g = record {
      sound = none_proper p b f h;
      at_most = subst (λ n. n ≤ known) (sym (none_floor p b h s)) (capped_at_most (objective p b.lower) known (known_above (objective p b.lower) known g));
      better = tt;
    }
    by_test false g = record {
      sound = (none_proper p b f h, worth_of p b b.lower h.lower_count (lower_is_point p b h e));
      at_most = subst (λ n. n ≤ max known (natural (objective p b.lower))) (sym (none_floor p b h s)) (capped_at_most (objective p b.lower) (max known (natural (objective p b.lower))) (natural_above (objective p b.lower) known));
      better = known_below (objective p b.lower) known g;
    }

-- ---- the ends of runs
split_sound : (p : Program) (b : Bounds) (c : Branch) (k : ℕ) → c.column ≡ k → k < length p.costs.items → number_at b.lower k ≤ℤ c.at → c.at <ℤ number_at b.upper k →
    (c.column < length p.costs.items) × (number_at b.lower c.column ≤ℤ c.at) × (c.at <ℤ number_at b.upper c.column)
split_sound p b c k e l low high = (omega arith, subst (λ i. number_at b.lower i ≤ℤ c.at) (sym e) low, subst (λ i. c.at <ℤ number_at b.upper i) (sym e) high)

unfixed_sound : (p : Program) (b : Bounds) (c : Branch) → IsInBox p b → IsUnfixed 0 b.lower b.upper c → (c.column < length p.costs.items) × (number_at b.lower c.column ≤ℤ c.at) × (c.at <ℤ number_at b.upper c.column)
unfixed_sound p b c h w = let n = h.lower_count in split_sound p b c w.place (omega (arith, w.number)) (omega (arith, w.in_list)) w.low w.high

fractional_sound : (p : Program) (b : Bounds) (known : ℕ) (point : List ℚ) (q : ℤ) (ws : List Weight) (c : Branch) → CertifiesBest p b known point q ws → IsFractional 0 point c → (c.column < length p.costs.items) × (number_at b.lower c.column ≤ℤ c.at) × (c.at <ℤ number_at b.upper c.column)
fractional_sound p b known point q ws c z w =
    let n = z.relaxed.count in
    let l : w.place < length p.costs.items = omega (arith, w.in_list) in
    let g = floor_between p b point w.place z.relaxed l w.not_whole in
    split_sound p b c w.place (omega (arith, w.number)) l (subst (λ x. number_at b.lower w.place ≤ℤ x) (sym w.floor) g.0) (subst (λ x. x <ℤ number_at b.upper w.place) (sym w.floor) g.1)

same_whole : (j k : ℤ) → whole_ℚ j ≡ whole_ℚ k → j ≡ k
same_whole j k e = sym (num-whole_ℚ j) ∙ ap (λ (x : ℚ). x.num) e ∙ num-whole_ℚ k

-- at a whole point the weighed number is the multiplier times its objective
whole_weighed : (p : Program) (b : Bounds) (known : ℕ) (point : List ℚ) (q : ℤ) (ws : List Weight) → CertifiesBest p b known point q ws → All IsWhole point → weighed p b q ws ≡ q *ℤ objective p (numerators point)
whole_weighed p b known point q ws z w =
    same_whole (weighed p b q ws) (q *ℤ objective p (numerators point))
    (z.optimal ∙ ap (λ x. whole_ℚ q *ℚ x) (sym (worth_same p point w)) ∙ sym (whole_ℚ-*ℤ q (objective p (numerators point))))

best_worked : (p : Program) (b : Bounds) (known : ℕ) (point : List ℚ) (q : ℤ) (ws : List Weight) → CertifiesBest p b known point q ws → (o : Option Branch) → fractional_from 0 point ≡ o → IsWorked p b known (best_by o p point q ws)
best_worked p b known point q ws z (Some c) e = record { sound = fractional_sound p b known point q ws c z (fractional_is 0 point c e); at_most = omega arith; better = tt }
best_worked p b known point q ws z None e =
    let w = none_fractional 0 point e in
    let x = numerators point in
    let o = objective p x in
    let i = whole_point p b point z.relaxed w in
    let f : floor_of p b q ws ≡ capped o = floor_above_zero p b q ws z.multiplier ∙ ap capped (ap (λ y. int_div_euclid y q) (whole_weighed p b known point q ws z w) ∙ exact q o z.multiplier) in
    let g : floor_ℚ (objective_value p point) ≡ o = ap floor_ℚ (sym (worth_same p point w)) ∙ floor_ℚ-whole_ℚ o in
    record {
      sound = (proper_above p b q ws z.weights.rows z.weights.signs z.multiplier z.weights.formed, worth_of p b x i.count i);
      at_most = subst (λ n. n ≤ max known (natural o)) (sym f) (capped_at_most o (max known (natural o)) (natural_above o known));
      better = subst (λ y. pos known <ℤ y) g z.above;
    }

end_worked : (p : Program) (b : Bounds) (known : ℕ) (c : Branch) → IsInBox p b → IsUnfixed 0 b.lower b.upper c → (e : End) → Certifies p b known e → IsWorked p b known (end_mark p c e)
end_worked p b known c h w (best point q ws) z = best_worked p b known point q ws z (fractional_from 0 point) refl
end_worked p b known c h w (cut q ws) z = record {
  sound = proper_above p b q ws z.weights.rows z.weights.signs z.multiplier z.weights.formed;
  at_most = subst (λ n. n ≤ known) (sym (floor_above_zero p b q ws z.multiplier)) (capped_at_most _ known z.at_most);
  better = tt;
}
end_worked p b known c h w (empty ws) z = record {
  sound = record { rows = z.weights.rows; weights = z.weights.signs; over = omega (arith, ints); formed = z.weights.formed; empty = λ e. z.negative };
  at_most = omega arith;
  better = tt;
}
end_worked p b known c h w (past place) z = record { sound = unfixed_sound p b c h w; at_most = omega arith; better = tt }
end_worked p b known c h w long z = record { sound = unfixed_sound p b c h w; at_most = omega arith; better = tt }

worked_by_is : (p : Program) (b : Bounds) (known : ℕ) → IsFit p → IsInBox p b → (o : Option Branch) → unfixed_from 0 b.lower b.upper ≡ o → IsWorked p b known (worked_by o p b known)
worked_by_is p b known f h None e =
    let s = none_unfixed 0 b.lower b.upper (h.lower_count ∙ sym h.upper_count) (λ k l. h.ordered k (subst (λ n. k < n) h.lower_count l)) e in
    single_worked p b known f h s (first_unmet_from 0 p.rows.items b.lower) refl
worked_by_is p b known f h (Some c) e = end_worked p b known c h (unfixed_is 0 b.lower b.upper c e) (machine p b known) (machine_certified p b known h)

pub worked : (p : Program) (b : Bounds) (known : ℕ) → IsFit p → IsInBox p b → IsWorked p b known (worked_mark p b known)
unfolding worked_mark
worked p b known f h = worked_by_is p b known f h (unfixed_from 0 b.lower b.upper) refl
