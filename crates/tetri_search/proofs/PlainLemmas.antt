-- The marks of a search are plain, and their lists are no longer than the program is wide and high.
use Rattle.std.proofs.Common.{◌≡◌, ℕ, ◌+◌, ◌*◌, ◌^◌, ◌<◌, ◌≤◌, max, refl, sym, ap, ◌∙◌, subst, arith, List, [], ◌∷◌, length, map, cond, Bool, true, false, Option, Some, None, Result, Ok, Err}
use Prim.Native.Nat.{suc}
use Rattle.std.specs.Prelude.{◌≢◌, ◌≤ℤ◌, ◌<ℤ◌, unsigned_abs}
use Rattle.std.specs.List.{All}
use Rattle.std.proofs.Math.Nat.{mul-le-mul_left}
use Rattle.std.proofs.lemmas.Int.{ints, unsigned_abs-mul}
use lib.IntN.{ℤ, pos, ◌+ℤ◌, ◌*ℤ◌}
use lib.Signed.{le_z}
use Rattle.tetri_algebra.specs.IntegerRing.{ℤ_ring}
use Rattle.tetri_algebra.specs.Rational.{ℚ}
use Rattle.tetri_algebra.specs.Sums.{dot}
use Rattle.tetri_num.specs.declared.fractions.Frac.{Frac}
use Rattle.tetri_num.specs.Frac.{value}
use Rattle.tetri_algebra.specs.Range.{IsWithin}
use Rattle.tetri_ip.specs.declared.programs.Program.{Program}
use Rattle.tetri_ip.specs.declared.programs.Weight.{Weight}
use Rattle.tetri_ip.specs.declared.programs.WeighFault.{WeighFault}
use Rattle.tetri_ip.specs.Forming.{weigh_answer}
use Rattle.tetri_ip.specs.Points.{Bounds, IsBetween, IsFit, IsInBox, cost_reach, first_unmet_from, number_at, objective, size_at}
use Rattle.tetri_ip.specs.Weighed.{AreOfRows, WeightsAscend, weight_at}
use Rattle.tetri_ip.proofs.IntegerProgramLaws.{first_unmet_some}
use Rattle.tetri_simplex.specs.Certificates.{AreWeights, Certifies, CertifiesBest}
use Rattle.tetri_simplex.specs.Ends.{End, best, cut, empty, past, long}
use Rattle.tetri_simplex.specs.Machine.{machine}
use Rattle.tetri_simplex.specs.Relaxation.{numerators}
use Rattle.tetri_simplex.proofs.DualRunLaws.{machine_certified, whole_point}
use Rattle.tetri_cert.specs.declared.marks.Mark.{Mark}
use Rattle.tetri_cert.specs.declared.marks.Mark.TheVariants.{Close, Whole}
use Rattle.tetri_cert.specs.Cells.{cells_of}
use Rattle.tetri_cert.specs.Lists.{Ascend}
use Rattle.tetri_cert.specs.NodeText.{ArePlainWeights, HasShortLists, IsPlain, IsPlainPoint}
use Rattle.tetri_cert.specs.Pairs.{IsPlainWeight, weight_key}
use Rattle.tetri_cert.proofs.MarkLaws.{cells_of-length, cells_of-plain, frac_cells_of-length, frac_cells_of-plain}
use Rattle.tetri_cert.proofs.TreeBoundLaws.{in_program_box, IsSound}
use Rattle.tetri_search.specs.declared.branches.Branch.{Branch}
use Rattle.tetri_search.specs.declared.duals.Dual.{Dual}
use Rattle.tetri_search.specs.Table.{Node, best_by, fractional_from, end_mark, rest_by, rest_mark, single_by, table, unfixed_from, worked_by, worked_mark}
use Rattle.tetri_search.specs.Nodes.{IfDual, IsDual, IsNarrow}
use Rattle.tetri_search.proofs.SplitLemmas.{none_fractional}
use Rattle.tetri_search.proofs.WorkedLemmas.{worked}

-- ---- weights
plain_from : (n least : ℕ) (ws : List Weight) → n ≤ 2 ^ 32 → All (λ (w : Weight). w.row < n) ws → WeightsAscend ws → All (λ (w : Weight). w.by ≢ pos 0) ws → All (λ (w : Weight). IsWithin w.by) ws → (0 < length ws → least ≤ (weight_at ws 0).row) → Ascend weight_key IsPlainWeight least ws
plain_from n least [] h r a z w l = tt
plain_from n least (x ∷ ws) h r a z w l = (
  l (omega arith),
  record { narrow = let k = r 0 x (omega arith) in omega arith; nonzero = z 0 x (omega arith); within = w 0 x (omega arith) },
  plain_from n (x.row + 1) ws h (λ k d m. r (suc k) d (omega arith)) (λ k m e f. a (suc k) (suc m) (omega arith) (omega arith)) (λ k d m. z (suc k) d (omega arith)) (λ k d m. w (suc k) d (omega arith)) (λ m. let k = a 0 1 (omega arith) (omega arith) in omega arith),
)

length_from : (n least : ℕ) (ws : List Weight) → least ≤ n → All (λ (w : Weight). w.row < n) ws → WeightsAscend ws → (0 < length ws → least ≤ (weight_at ws 0).row) → least + length ws ≤ n
length_from n least [] h r a l = omega arith
length_from n least (x ∷ ws) h r a l =
    let k = r 0 x (omega arith) in
    let m = l (omega arith) in
    let i = length_from n (x.row + 1) ws (omega arith) (λ k d m. r (suc k) d (omega arith)) (λ k m e f. a (suc k) (suc m) (omega arith) (omega arith)) (λ m. let k = a 0 1 (omega arith) (omega arith) in omega arith) in
    omega arith

few_rows : (p : Program) → IsFit p → length p.rows.items ≤ 2 ^ 32
few_rows p f = let h = f.few_rows in omega arith

few_columns : (p : Program) → IsFit p → length p.costs.items ≤ 2 ^ 32
few_columns p f = let h = f.few_columns in omega arith

plain_weights : (p : Program) (ws : List Weight) → IsFit p → AreOfRows p ws → WeightsAscend ws → All (λ (w : Weight). w.by ≢ pos 0) ws → All (λ (w : Weight). IsWithin w.by) ws → ArePlainWeights ws
plain_weights p ws f r a z w = plain_from (length p.rows.items) 0 ws (few_rows p f) r a z w (λ l. omega arith)

short_weights : (p : Program) (ws : List Weight) → AreOfRows p ws → WeightsAscend ws → length ws ≤ length p.rows.items
short_weights p ws r a = let h = length_from (length p.rows.items) 0 ws (omega arith) r a (λ l. omega arith) in omega arith

-- the number of a row fits a cell of a weight
pub unmet_fits : (p : Program) (xs : List ℤ) (i : ℕ) → IsFit p → first_unmet_from 0 p.rows.items xs ≡ Some i → i < 2 ^ 32
unmet_fits p xs i f e =
    let u = first_unmet_some 0 p.rows.items xs i e in
    let n = f.few_rows in
    omega (arith, u.number, u.in_list)

-- ---- numbers in the box
within_between : (l x u : ℤ) → IsWithin l → IsWithin u → l ≤ℤ x → x ≤ℤ u → IsWithin x
within_between l x u h k a b = omega (arith, ints)

size_between : (l x u : ℤ) → l ≤ℤ x → x ≤ℤ u → unsigned_abs x ≤ max (unsigned_abs l) (unsigned_abs u)
size_between l x u h k = omega (arith, ints)

size_of_sum : (x y : ℤ) (m n : ℕ) → unsigned_abs x ≤ m → unsigned_abs y ≤ n → unsigned_abs (x +ℤ y) ≤ m + n
size_of_sum x y m n h k = omega (arith, ints)

dot_reach : (p : Program) (j : ℕ) (cs xs : List ℤ) → length xs ≡ length cs → ((k : ℕ) → k < length cs → unsigned_abs (number_at xs k) ≤ size_at p (j + k)) → unsigned_abs (dot ℤ_ring cs xs) ≤ cost_reach p j cs
dot_reach p j [] xs e h = omega (arith, ints)
dot_reach p j (c ∷ cs) [] e h = absurd (omega arith)
dot_reach p j (c ∷ cs) (x ∷ xs) e h =
    let z : j + 0 ≡ j = omega arith in
    let a : unsigned_abs x ≤ size_at p j = subst (λ i. unsigned_abs x ≤ size_at p i) z (h 0 (omega arith)) in
    let m = mul-le-mul_left (unsigned_abs c) a in
    let r = dot_reach p (j + 1) cs xs (omega arith) (λ k l. subst (λ i. unsigned_abs (number_at xs k) ≤ size_at p i) (moved k) (h (suc k) (omega arith))) in
    size_of_sum (c *ℤ x) (dot ℤ_ring cs xs) (unsigned_abs c * size_at p j) (cost_reach p (j + 1) cs) (subst (λ n. n ≤ unsigned_abs c * size_at p j) (sym (unsigned_abs-mul c x)) m) r
  where
    moved : (k : ℕ) → j + suc k ≡ j + 1 + k
    moved k = omega arith

pub objective_within : (p : Program) (xs : List ℤ) → IsFit p → length xs ≡ length p.costs.items → IsBetween (length p.costs.items) p.lower.items xs p.upper.items → IsWithin (objective p xs)
objective_within p xs f n b =
    let r = dot_reach p 0 p.costs.items xs n (λ k l. subst (λ i. unsigned_abs (number_at xs k) ≤ size_at p i) (from_zero k) (size_between (number_at p.lower.items k) (number_at xs k) (number_at p.upper.items k) (b k l).0 (b k l).1)) in
    let c = f.costs in
    below _ _ r c
  where
    from_zero : (k : ℕ) → k ≡ 0 + k
    from_zero k = omega arith

    below : (m n : ℕ) → m ≤ n → n < 2 ^ 127 → m < 2 ^ 127
    below m n h k = omega arith

numbers_within : (p : Program) (xs : List ℤ) → IsFit p → length xs ≡ length p.costs.items → IsBetween (length p.costs.items) p.lower.items xs p.upper.items → (k : ℕ) → k < length xs → IsWithin (number_at xs k)
numbers_within p xs f n b k l =
    let m : k < length p.costs.items = omega arith in
    let l1 : k < length p.lower.items = let e = f.lower_count in omega arith in
    let l2 : k < length p.upper.items = let e = f.upper_count in omega arith in
    within_between (number_at p.lower.items k) (number_at xs k) (number_at p.upper.items k) (f.lower_within k l1) (f.upper_within k l2) (b k m).0 (b k m).1

plain_cells : (p : Program) (xs : List ℤ) → IsFit p → length xs ≡ length p.costs.items → IsBetween (length p.costs.items) p.lower.items xs p.upper.items → IsPlainPoint (cells_of xs)
plain_cells p xs f n b = cells_of-plain xs (subst (λ k. k ≤ 2 ^ 32) (sym n) (few_columns p f)) (numbers_within p xs f n b)

lower_between : (p : Program) (b : Bounds) → IsInBox p b → IsBetween (length p.costs.items) p.lower.items b.lower p.upper.items
lower_between p b h k l = (h.above k l, le_trans _ _ _ (h.ordered k l) (h.below k l))
  where
    le_trans : (x y z : ℤ) → x ≤ℤ y → y ≤ℤ z → x ≤ℤ z
    le_trans x y z e f = omega (arith, ints)

-- a split's number lies in the box
at_within : (p : Program) (b : Bounds) (j : ℕ) (at : ℤ) → IsFit p → IsInBox p b → j < length p.costs.items → number_at b.lower j ≤ℤ at → at <ℤ number_at b.upper j → IsWithin at
at_within p b j at f h l low high =
    let l1 : j < length p.lower.items = let e = f.lower_count in omega arith in
    let l2 : j < length p.upper.items = let e = f.upper_count in omega arith in
    within_between (number_at p.lower.items j) at (number_at p.upper.items j) (f.lower_within j l1) (f.upper_within j l2) (up _ _ _ (h.above j l) low) (down _ _ _ high (h.below j l))
  where
    up : (x y z : ℤ) → x ≤ℤ y → y ≤ℤ z → x ≤ℤ z
    up x y z e f = omega (arith, ints)

    down : (x y z : ℤ) → x <ℤ y → y ≤ℤ z → x ≤ℤ z
    down x y z e f = omega (arith, ints)

-- ---- a mark that is plain, and whose lists have at most as many entries as the program has columns and rows
pub record IsListed (p : Program) (m : Mark) : Type 0 where
  pub plain : IsPlain m
  pub short : (most : ℕ) → length p.costs.items ≤ most → length p.rows.items ≤ most → HasShortLists most m

small_within : (n : ℕ) → n ≤ 1 → IsWithin (pos n)
small_within n h = omega (arith, ints)

le_trans : (a b c : ℕ) → a ≤ b → b ≤ c → a ≤ c
le_trans a b c h k = omega arith

close_listed : (p : Program) (b : Bounds) (q : ℤ) (ws : List Weight) → IsFit p → AreWeights p b q ws → IsListed p (Close q ws)
close_listed p b q ws f w = record {
  plain = (w.multiplier_in_range, plain_weights p ws f w.rows w.ascending w.nonzero w.in_range);
  short = λ most c r. le_trans _ _ _ (short_weights p ws w.rows w.ascending) r;
}

single_listed : (p : Program) (b : Bounds) (known : ℕ) → IsFit p → IsInBox p b → (o : Option ℕ) → first_unmet_from 0 p.rows.items b.lower ≡ o → IsListed p (single_by o p b.lower known)
single_listed p b known f h (Some i) e =
    let u = first_unmet_some 0 p.rows.items b.lower i e in
    let l : i < length p.rows.items = omega (arith, u.number, u.in_list) in
    let n = few_rows p f in
    record {
      plain = (small_within 0 (omega arith), (omega arith, record { narrow = omega arith; nonzero = λ z. cc; within = small_within 1 (omega arith) }, tt));
      short = λ most c r. le_trans 1 (length p.rows.items) most (omega arith) r;
    }
single_listed p b known f h None e = by_test (le_z (objective p b.lower) (pos known))
  where
    by_test : (t : Bool) → IsListed p (cond t (Close (pos 1) []) (Whole (pos 1) [] (objective p b.lower) (cells_of b.lower)))
    by_test true = record { plain = (small_within 1 (omega arith), tt); short = λ most c r. omega arith }
    by_test false = record {
      plain = (small_within 1 (omega arith), tt, objective_within p b.lower f h.lower_count (lower_between p b h), plain_cells p b.lower f h.lower_count (lower_between p b h));
      short = λ most c r. (omega arith, le_trans _ _ _ (cells_of-length b.lower) (subst (λ k. k ≤ most) (sym h.lower_count) c));
    }

-- a whole best point lies in the box
pub best_in_box : (p : Program) (b : Bounds) (known : ℕ) (point xs : List Frac) (q : ℤ) (ws : List Weight) → IsInBox p b → CertifiesBest p b known (map value point) q ws → xs ≡ point → fractional_from 0 (map value xs) ≡ None → IsBetween (length p.costs.items) p.lower.items (numerators (map value xs)) p.upper.items
best_in_box p b known point xs q ws h z e n =
    let w = none_fractional 0 (map value point) (ap (λ (ys : List Frac). fractional_from 0 (map value ys)) (sym e) ∙ n) in
    subst (λ (ys : List Frac). IsBetween (length p.costs.items) p.lower.items (numerators (map value ys)) p.upper.items) (sym e)
    (in_program_box p b (numerators (map value point)) h (whole_point p b (map value point) z.relaxed w))

best_listed : (p : Program) (b : Bounds) (known : ℕ) (point : List ℚ) (q : ℤ) (ws : List Weight) → IsFit p → IsInBox p b → CertifiesBest p b known point q ws → (o : Option Branch) → fractional_from 0 point ≡ o → IsSound p b (best_by o p point q ws) → IsListed p (best_by o p point q ws)
best_listed p b known point q ws f h z (Some c) e s =
    let n = z.relaxed.count in
    let k = f.few_columns in
    record {
      plain = (let l = s.0 in omega arith, at_within p b c.column c.at f h s.0 s.1 s.2, frac_cells_of-plain point (subst (λ i. i ≤ 2 ^ 32) (sym n) (few_columns p f)));
      short = λ most c r. le_trans _ _ _ (frac_cells_of-length point) (subst (λ i. i ≤ most) (sym n) c);
    }
best_listed p b known point q ws f h z None e s =
    let x = numerators point in
    let i = whole_point p b point z.relaxed (none_fractional 0 point e) in
    let g = in_program_box p b x h i in
    record {
      plain = (z.weights.multiplier_in_range, plain_weights p ws f z.weights.rows z.weights.ascending z.weights.nonzero z.weights.in_range, objective_within p x f i.count g, plain_cells p x f i.count g);
      short = λ most c r. (le_trans _ _ _ (short_weights p ws z.weights.rows z.weights.ascending) r, le_trans _ _ _ (cells_of-length x) (subst (λ k. k ≤ most) (sym i.count) c));
    }

end_listed : (p : Program) (b : Bounds) (known : ℕ) (c : Branch) → IsFit p → IsInBox p b → (e : End) → Certifies p b known e → IsSound p b (end_mark p c e) → IsNarrow (end_mark p c e) → IsListed p (end_mark p c e)
end_listed p b known c f h (best point q ws) z s n = best_listed p b known point q ws f h z (fractional_from 0 point) refl s
end_listed p b known c f h (cut q ws) z s n = close_listed p b q ws f z.weights
end_listed p b known c f h (empty ws) z s n = close_listed p b (pos 0) ws f z.weights
end_listed p b known c f h (past place) z s n =
    let k = f.few_columns in
    record { plain = (let l = s.0 in omega arith, at_within p b c.column c.at f h s.0 s.1 s.2, n); short = λ most c r. tt }
end_listed p b known c f h long z s n =
    let k = f.few_columns in
    record { plain = (let l = s.0 in omega arith, at_within p b c.column c.at f h s.0 s.1 s.2, tt); short = λ most c r. tt }

worked_by_listed : (p : Program) (b : Bounds) (known : ℕ) → IsFit p → IsInBox p b → (o : Option Branch) → IsSound p b (worked_by o p b known) → IsNarrow (worked_by o p b known) → IsListed p (worked_by o p b known)
worked_by_listed p b known f h None s n = single_listed p b known f h (first_unmet_from 0 p.rows.items b.lower) refl
worked_by_listed p b known f h (Some c) s n = end_listed p b known c f h (machine p b known) (machine_certified p b known h) s n

pub worked_listed : (p : Program) (b : Bounds) (known : ℕ) → IsFit p → IsInBox p b → IsNarrow (worked_mark p b known) → IsListed p (worked_mark p b known)
unfolding worked_mark
worked_listed p b known f h n = worked_by_listed p b known f h (unfixed_from 0 b.lower b.upper) (worked p b known f h).sound n

rest_listed : (p : Program) (d : Dual) (r : Result ℤ WeighFault) → IsFit p → IsDual p d → IsListed p (rest_by d r)
rest_listed p d (Ok z) f w = record {
  plain = (w.multiplier_in_range, plain_weights p d.weights f w.rows w.ascending w.nonzero w.in_range);
  short = λ most c r. le_trans _ _ _ (short_weights p d.weights w.rows w.ascending) r;
}
rest_listed p d (Err e) f w = record { plain = (small_within 1 (omega arith), tt); short = λ most c r. omega arith }

pub rest_mark_listed : (p : Program) (b : Bounds) (above : Option Dual) → IsFit p → IfDual p above → IsListed p (rest_mark p b above)
unfolding rest_mark
rest_mark_listed p b None f w = record { plain = (small_within 1 (omega arith), tt); short = λ most c r. omega arith }
rest_mark_listed p b (Some d) f w = rest_listed p d (weigh_answer p b d.q d.weights) f w

pub mark_listed : (p : Program) (n : Node) (known : ℕ) (t : Bool) (m : Mark) → IsFit p → IsInBox p n.region → IfDual p n.dual → IsNarrow m → m ≡ table p n known t → IsListed p m
unfolding table
mark_listed p n known true m f h d a e = subst (IsListed p) (sym e) (worked_listed p n.region known f h (subst IsNarrow e a))
mark_listed p n known false m f h d a e = subst (IsListed p) (sym e) (rest_mark_listed p n.region n.dual f d)
