-- The marks that tests, splits in the middle, regions of one point and rests give.
use Rattle.std.proofs.Common.{◌≡◌, ℕ, ◌+◌, ◌^◌, ◌<◌, ◌≤◌, max, refl, sym, ap, ◌∙◌, subst, arith, List, [], ◌∷◌, length, map, cond, Bool, true, false, Option, Some, None}
use Rattle.std.specs.Prelude.{◌≢◌, ◌≤ℤ◌, ◌<ℤ◌}
use Rattle.std.specs.Int.{int_div_euclid}
use Rattle.std.specs.List.{All}
use Rattle.std.proofs.lemmas.Bool.{false≢true}
use Rattle.std.proofs.lemmas.Int.{ints}
use Rattle.std.proofs.lemmas.List.{length-map}
use Rattle.std.proofs.lemmas.List.Elements.{All-cons, All-nil}
use lib.IntN.{ℤ, pos, negsuc, ◌+ℤ◌, ◌-ℤ◌}
use lib.Signed.{lt_z, le_z}
use Rattle.tetri_algebra.specs.Range.{IsWithin}
use Rattle.tetri_algebra.specs.Rational.{ℚ}
use Rattle.tetri_num.specs.declared.fractions.Frac.{Frac}
use Rattle.tetri_num.specs.Frac.{value}
use Rattle.tetri_ip.specs.declared.programs.Program.{Program}
use Rattle.tetri_ip.specs.declared.programs.Weight.{Weight}
use Rattle.tetri_ip.specs.Points.{Bounds, IsFit, IsInBox, IsPoint, first_unmet_from, number_at, objective}
use Rattle.tetri_ip.specs.Weighed.{AreNotNegative, AreOfRows, weighed}
use Rattle.tetri_cert.specs.declared.marks.Cell.{Cell}
use Rattle.tetri_cert.specs.declared.marks.FracCell.{FracCell}
use Rattle.tetri_cert.specs.declared.marks.Licence.{Licence}
use Rattle.tetri_cert.specs.declared.marks.Licence.TheVariants as licences
use Rattle.tetri_cert.specs.declared.marks.Mark.{Mark}
use Rattle.tetri_cert.specs.declared.marks.Mark.TheVariants.{Split, Close, Whole, Rest}
use Rattle.tetri_cert.specs.Cells.{cells_of, frac_cells_of, point_of}
use Rattle.tetri_cert.specs.Lists.{Ascend}
use Rattle.tetri_cert.specs.NodeBounds.{capped}
use Rattle.tetri_cert.specs.NodeText.{ArePlainWeights, HasShortLists, IsPlainLicence, IsPlainPoint}
use Rattle.tetri_cert.specs.Pairs.{IsPlainWeight, weight_key}
use Rattle.tetri_cert.specs.ProperTrees.{AreProper, IsWorth, floor_of}
use Rattle.tetri_cert.proofs.MarkLaws.{cells_of-columns, cells_of-length, cells_of-plain, frac_cells_of-length, frac_cells_of-plain, point_of-cells_of}
use Rattle.tetri_cert.proofs.TreeBoundLaws.{IsSound, in_program_box}
use Rattle.tetri_compile.specs.Gain.{most_gain}
use Rattle.tetri_compile.proofs.ProgramLaws.{region_gain}
use Rattle.tetri_search.specs.Follow.{natural}
use Rattle.tetri_search.specs.Laws.{is_rest}
use Rattle.tetri_search.specs.Nodes.{IsNarrow}
use Rattle.tetri_search.specs.Table.{single_by, single_mark, unfixed_from, worked_by, worked_mark}
use Rattle.tetri_search.proofs.PlainLemmas.{IsListed, objective_within, worked_listed}
use Rattle.tetri_search.proofs.WorkedLemmas.{IsWorked, none_proper, proper_above, worked}
use Rattle.tetri_search.proofs.WorkedLemmas as worked_lemmas
use Rattle.tetri_swift.specs.declared.single.Branch.{Branch}
use Rattle.tetri_swift.specs.Branches.{IsOpen}
use Rattle.tetri_swift.specs.Exact.{IsExact}
use Rattle.tetri_swift.specs.Nodes.{IsBetter, IsFair, IsTested, IsWorthMore}
use Rattle.tetri_swift.specs.Weights.{Climb, IsBounded, IsWeighed}

-- ---- numbers
capped_at_most : (z : ℤ) (n : ℕ) → z ≤ℤ pos n → capped z ≤ n
capped_at_most (pos m) n h = omega (arith, ints)
capped_at_most (negsuc m) n h = omega arith

above_zero : (q : ℤ) → pos 0 <ℤ q → lt_z (pos 0) q ≡ true
above_zero q h = grind (arith, ints)

le_trans : (a b c : ℕ) → a ≤ b → b ≤ c → a ≤ c
le_trans a b c h k = omega arith

le_trans_z : (x y z : ℤ) → x ≤ℤ y → y ≤ℤ z → x ≤ℤ z
le_trans_z x y z e f = omega (arith, ints)

-- ---- weights
pub climb_rows : (p : Program) (least : ℕ) (ws : List Weight) → Climb (length p.rows.items) least ws → AreOfRows p ws
climb_rows p least [] h = All-nil (λ (w : Weight). w.row < length p.rows.items)
climb_rows p least (w ∷ ws) h = All-cons (λ (w : Weight). w.row < length p.rows.items) w ws h.1 (climb_rows p (w.row + 1) ws h.4)

climb_signs : (rows least : ℕ) (ws : List Weight) → Climb rows least ws → AreNotNegative ws
climb_signs rows least [] h = All-nil (λ (w : Weight). pos 0 ≤ℤ w.by)
climb_signs rows least (w ∷ ws) h = All-cons (λ (w : Weight). pos 0 ≤ℤ w.by) w ws (weak w.by h.2) (climb_signs rows (w.row + 1) ws h.4)
  where
    weak : (z : ℤ) → pos 0 <ℤ z → pos 0 ≤ℤ z
    weak z k = omega (arith, ints)

climb_plain : (rows least : ℕ) (ws : List Weight) → rows ≤ 2 ^ 32 → Climb rows least ws → Ascend weight_key IsPlainWeight least ws
climb_plain rows least [] f h = tt
climb_plain rows least (w ∷ ws) f h =
    (h.0, record { narrow = (let r = h.1 in omega arith); nonzero = not_zero w.by h.2; within = h.3 }, climb_plain rows (w.row + 1) ws f h.4)
  where
    not_zero : (z : ℤ) → pos 0 <ℤ z → z ≢ pos 0
    not_zero z k e = omega (arith, ints)

climb_short : (rows least : ℕ) (ws : List Weight) → least ≤ rows → Climb rows least ws → least + length ws ≤ rows
climb_short rows least [] l h = omega arith
climb_short rows least (w ∷ ws) l h =
    let a = h.0 in
    let b = h.1 in
    let r = climb_short rows (w.row + 1) ws (omega arith) h.4 in
    omega arith

weights_plain : (p : Program) (ws : List Weight) → IsFit p → Climb (length p.rows.items) 0 ws → ArePlainWeights ws
weights_plain p ws f h = climb_plain (length p.rows.items) 0 ws (let n = f.few_rows in omega arith) h

weights_short : (p : Program) (ws : List Weight) → Climb (length p.rows.items) 0 ws → length ws ≤ length p.rows.items
weights_short p ws h = let r = climb_short (length p.rows.items) 0 ws (omega arith) h in omega arith

bounded_proper : (p : Program) (b : Bounds) (q : ℤ) (ws : List Weight) (most : ℕ) → IsBounded p b q ws most → AreProper p b q ws
bounded_proper p b q ws most h = record {
  rows = climb_rows p 0 ws h.weighed_is.climb;
  weights = climb_signs (length p.rows.items) 0 ws h.weighed_is.climb;
  over = h.weighed_is.over;
  formed = h.weighed_is.formed;
  empty = h.at_most.empty;
}

bounded_floor : (p : Program) (b : Bounds) (q : ℤ) (ws : List Weight) (most : ℕ) → IsBounded p b q ws most → floor_of p b q ws ≤ most
bounded_floor p b q ws most h = by_sign (lt_z (pos 0) q) refl
  where
    is_above : (z : ℤ) → lt_z (pos 0) z ≡ true → pos 0 <ℤ z
    is_above z e = grind (arith, ints)

    by_sign : (t : Bool) → lt_z (pos 0) q ≡ t → cond t (capped (int_div_euclid (weighed p b q ws) q)) 0 ≤ most
    by_sign true e = capped_at_most (int_div_euclid (weighed p b q ws) q) most (h.at_most.floor (is_above q e))
    by_sign false e = omega arith

-- ---- marks that pass their tests
close_fair : (p : Program) (b : Bounds) (known : ℕ) (q : ℤ) (ws : List Weight) → IsFit p → IsInBox p b → IsBounded p b q ws known → IsFair p b known true (Close q ws)
close_fair p b known q ws f i h = record {
  in_box = i;
  tested = bounded_proper p b q ws known h;
  at_most = λ e. bounded_floor p b q ws known h;
  better = tt;
  rest = refl;
  plain = (h.weighed_is.in_range, weights_plain p ws f h.weighed_is.climb);
  short = λ most c r. le_trans _ _ _ (weights_short p ws h.weighed_is.climb) r;
}

worth_of : (p : Program) (b : Bounds) (xs : List ℤ) → length xs ≡ length p.costs.items → IsPoint p b xs → IsWorth p b (objective p xs) (cells_of xs)
worth_of p b xs n i =
    let e : point_of (length p.costs.items) (cells_of xs) ≡ xs = ap (λ k. point_of k (cells_of xs)) (sym n) ∙ point_of-cells_of xs in
    record {
      columns = subst (λ k. All (λ (c : Cell). c.column < k) (cells_of xs)) n (cells_of-columns xs);
      point = subst (IsPoint p b) (sym e) i;
      worth_is = ap (objective p) (sym e);
    }

within_between : (l x u : ℤ) → IsWithin l → IsWithin u → l ≤ℤ x → x ≤ℤ u → IsWithin x
within_between l x u h k a b = omega (arith, ints)

few_columns : (p : Program) → IsFit p → length p.costs.items ≤ 2 ^ 32
few_columns p f = let h = f.few_columns in omega arith

point_plain : (p : Program) (b : Bounds) (xs : List ℤ) → IsFit p → IsInBox p b → IsPoint p b xs → IsPlainPoint (cells_of xs)
point_plain p b xs f i h = cells_of-plain xs (subst (λ k. k ≤ 2 ^ 32) (sym h.count) (few_columns p f)) (λ k l. here k (subst (λ n. k < n) h.count l))
  where
    here : (k : ℕ) → k < length p.costs.items → IsWithin (number_at xs k)
    here k m =
        let l1 : k < length p.lower.items = let e = f.lower_count in omega arith in
        let l2 : k < length p.upper.items = let e = f.upper_count in omega arith in
        let s = in_program_box p b xs i h in
        within_between (number_at p.lower.items k) (number_at xs k) (number_at p.upper.items k) (f.lower_within k l1) (f.upper_within k l2) (s k m).0 (s k m).1

worth_kept : (worth : ℤ) (known : ℕ) → pos known <ℤ worth → (n : ℕ) → worth ≡ pos n → n ≤ max known (natural worth)
worth_kept (pos m) known h n e = let k : m ≡ n = cc in omega arith
worth_kept (negsuc m) known h n e = cc

whole_fair : (p : Program) (b : Bounds) (known : ℕ) (q worth : ℤ) (ws : List Weight) (xs : List ℤ) (n : ℕ) → IsFit p → IsInBox p b → IsWorthMore p b known worth xs → worth ≡ pos n → IsBounded p b q ws n → IsFair p b known true (Whole q ws worth (cells_of xs))
whole_fair p b known q worth ws xs n f i w e h = record {
  in_box = i;
  tested = (bounded_proper p b q ws n h, subst (λ z. IsWorth p b z (cells_of xs)) (sym w.worth_is) (worth_of p b xs w.point_is.count w.point_is));
  at_most = λ _. le_trans _ _ _ (bounded_floor p b q ws n h) (worth_kept worth known w.above n e);
  better = (w.above, w.below);
  rest = refl;
  plain = (h.weighed_is.in_range, weights_plain p ws f h.weighed_is.climb, subst IsWithin (sym w.worth_is) (objective_within p xs f w.point_is.count (in_program_box p b xs i w.point_is)), point_plain p b xs f i w.point_is);
  short = λ most c r. (le_trans _ _ _ (weights_short p ws h.weighed_is.climb) r, le_trans _ _ _ (cells_of-length xs) (subst (λ k. k ≤ most) (sym w.point_is.count) c));
}

at_within : (p : Program) (b : Bounds) (j : ℕ) (at : ℤ) → IsFit p → IsInBox p b → j < length p.costs.items → number_at b.lower j ≤ℤ at → at <ℤ number_at b.upper j → IsWithin at
at_within p b j at f h l low high =
    let l1 : j < length p.lower.items = let e = f.lower_count in omega arith in
    let l2 : j < length p.upper.items = let e = f.upper_count in omega arith in
    within_between (number_at p.lower.items j) at (number_at p.upper.items j) (f.lower_within j l1) (f.upper_within j l2) (le_trans_z _ _ _ (h.above j l) low) (down _ _ _ high (h.below j l))
  where
    down : (x y z : ℤ) → x <ℤ y → y ≤ℤ z → x ≤ℤ z
    down x y z e f = omega (arith, ints)

split_of : (p : Program) (b : Bounds) (known j : ℕ) (at : ℤ) (licence : Licence) → IsFit p → IsInBox p b → j < length p.costs.items → number_at b.lower j ≤ℤ at → at <ℤ number_at b.upper j
    → IsPlainLicence licence → ((most : ℕ) → length p.costs.items ≤ most → HasShortLists most (Split j at licence)) → IsFair p b known true (Split j at licence)
split_of p b known j at licence f i l low high plain short = record {
  in_box = i;
  tested = (l, low, high);
  at_most = λ e. omega arith;
  better = tt;
  rest = refl;
  plain = ((let k = f.few_columns in omega arith), at_within p b j at f i l low high, plain);
  short = λ most c r. short most c;
}

split_fair : (p : Program) (b : Bounds) (known j : ℕ) (at : ℤ) (xs : List ℚ) → IsFit p → IsInBox p b → j < length p.costs.items → length xs ≡ length p.costs.items → number_at b.lower j ≤ℤ at → at <ℤ number_at b.upper j → IsFair p b known true (Split j at (licences.Point (frac_cells_of xs)))
split_fair p b known j at xs f i l n low high =
    split_of p b known j at (licences.Point (frac_cells_of xs)) f i l low high
    (frac_cells_of-plain xs (subst (λ k. k ≤ 2 ^ 32) (sym n) (few_columns p f)))
    (λ most c. le_trans _ _ _ (frac_cells_of-length xs) (subst (λ k. k ≤ most) (sym n) c))

pub middle_fair : (p : Program) (b : Bounds) (known : ℕ) (c : Branch) (licence : Licence) → IsFit p → IsInBox p b → IsOpen p b c → IsPlainLicence licence → ((most : ℕ) → HasShortLists most (Split c.column c.at licence)) → IsFair p b known true (Split c.column c.at licence)
middle_fair p b known c licence f i o plain short = split_of p b known c.column c.at licence f i o.column_is o.low o.high plain (λ most k. short most)

-- ---- rests
rest_fair : (p : Program) (b : Bounds) (known : ℕ) (q : ℤ) (ws : List Weight) → IsFit p → IsInBox p b → pos 0 <ℤ q → IsWeighed p b q ws → IsFair p b known false (Rest q ws)
rest_fair p b known q ws f i z h = record {
  in_box = i;
  tested = proper_above p b q ws (climb_rows p 0 ws h.climb) (climb_signs (length p.rows.items) 0 ws h.climb) z h.formed;
  at_most = λ e. absurd (false≢true (sym e));
  better = tt;
  rest = refl;
  plain = (h.in_range, weights_plain p ws f h.climb);
  short = λ most c r. le_trans _ _ _ (weights_short p ws h.climb) r;
}

small_within : (n : ℕ) → n ≤ 1 → IsWithin (pos n)
small_within n h = omega (arith, ints)

pub none_fair : (p : Program) (b : Bounds) (known : ℕ) → IsFit p → IsInBox p b → IsFair p b known false (Rest (pos 1) [])
none_fair p b known f i = record {
  in_box = i;
  tested = none_proper p b f i;
  at_most = λ e. absurd (false≢true (sym e));
  better = tt;
  rest = refl;
  plain = (small_within 1 (omega arith), tt);
  short = λ most c r. omega arith;
}

-- ---- the marks as they are written
pub close_written : (p : Program) (b : Bounds) (known : ℕ) (q : ℤ) (ws us : List Weight) → us ≡ ws → IsFit p → IsInBox p b → IsBounded p b q ws known → IsFair p b known true (Close q us)
close_written p b known q ws us e f i h = subst (λ (vs : List Weight). IsFair p b known true (Close q vs)) (sym e) (close_fair p b known q ws f i h)

exact_bounded : (p : Program) (b : Bounds) (q worth : ℤ) (ws : List Weight) (n : ℕ) → worth ≡ pos n → IsExact p b q ws worth → IsBounded p b q ws n
exact_bounded p b q worth ws n e h = record {
  weighed_is = h.weighed_is;
  at_most = record { empty = λ z. absurd (not_zero q h.above z); floor = λ l. subst (λ x. int_div_euclid (weighed p b q ws) q ≤ℤ x) e h.floor };
}
  where
    not_zero : (x : ℤ) → pos 0 <ℤ x → x ≡ pos 0 → ⊥
    not_zero x h e = omega (arith, ints)

whole_of : (p : Program) (b : Bounds) (known : ℕ) (q worth : ℤ) (ws : List Weight) (xs : List ℤ) → IsFit p → IsInBox p b → IsWorthMore p b known worth xs → IsExact p b q ws worth → IsFair p b known true (Whole q ws worth (cells_of xs))
whole_of p b known q (pos n) ws xs f i w h = whole_fair p b known q (pos n) ws xs n f i w refl (exact_bounded p b q (pos n) ws n refl h)
whole_of p b known q (negsuc n) ws xs f i w h = absurd (never known n w.above)
  where
    never : (k n : ℕ) → pos k <ℤ negsuc n → ⊥
    never k n h = omega (arith, ints)

pub whole_written : (p : Program) (b : Bounds) (known : ℕ) (q worth value : ℤ) (ws us : List Weight) (xs : List ℤ) (cells : List Cell) → value ≡ worth → us ≡ ws → cells ≡ cells_of xs → IsFit p → IsInBox p b → IsWorthMore p b known worth xs → IsExact p b q ws value
    → IsFair p b known true (Whole q us value cells)
whole_written p b known q worth value ws us xs cells v e c f i w h =
    subst (λ (cs : List Cell). IsFair p b known true (Whole q us value cs)) (sym c)
    (subst (λ (vs : List Weight). IsFair p b known true (Whole q vs value (cells_of xs))) (sym e)
    (whole_of p b known q value ws xs f i (subst (λ z. IsWorthMore p b known z xs) (sym v) w) h))

pub split_written : (p : Program) (b : Bounds) (known : ℕ) (c : Branch) (xs : List ℚ) (cells : List FracCell) (at : ℤ) → at ≡ c.at → cells ≡ frac_cells_of xs → length xs ≡ length p.costs.items → IsFit p → IsInBox p b → IsOpen p b c → IsFair p b known true (Split c.column at (licences.Point cells))
split_written p b known c xs cells at a e n f i o =
    subst (λ z. IsFair p b known true (Split c.column z (licences.Point cells))) (sym a)
    (subst (λ (cs : List FracCell). IsFair p b known true (Split c.column c.at (licences.Point cs))) (sym e)
    (split_fair p b known c.column c.at xs f i o.column_is n o.low o.high))

pub rest_written : (p : Program) (b : Bounds) (known : ℕ) (q : ℤ) (ws us : List Weight) → us ≡ ws → IsFit p → IsInBox p b → pos 0 <ℤ q → IsWeighed p b q ws → IsFair p b known false (Rest q us)
rest_written p b known q ws us e f i a h = subst (λ (vs : List Weight). IsFair p b known false (Rest q vs)) (sym e) (rest_fair p b known q ws f i a h)

-- ---- regions of one point
none_open : (j : ℕ) (ls : List ℤ) → unfixed_from j ls ls ≡ None
none_open j [] = refl
none_open j (l ∷ ls) = ap (λ t. cond t (Some (record { column = j; at = l +ℤ int_div_euclid (l -ℤ l) (pos 2) })) (unfixed_from (j + 1) ls ls)) (not_less l) ∙ none_open (j + 1) ls
  where
    not_less : (z : ℤ) → lt_z z z ≡ false
    not_less z = grind (arith, ints)

single_worked : (p : Program) (b : Bounds) (known : ℕ) → b.lower ≡ b.upper → worked_mark p b known ≡ single_mark p b known
unfolding worked_mark
single_worked p b known e = ap (λ o. worked_by o p b known) (ap (λ us. unfixed_from 0 b.lower us) (sym e) ∙ none_open 0 b.lower)

single_narrow : (o : Option ℕ) (p : Program) (point : List ℤ) (known : ℕ) → IsNarrow (single_by o p point known)
single_narrow (Some i) p point known = tt
single_narrow None p point known = by_test (le_z (objective p point) (pos known))
  where
    by_test : (t : Bool) → IsNarrow (cond t (Close (pos 1) []) (Whole (pos 1) [] (objective p point) (cells_of point)))
    by_test true = tt
    by_test false = tt

single_is_no_rest : (o : Option ℕ) (p : Program) (point : List ℤ) (known : ℕ) → is_rest (single_by o p point known) ≡ false
single_is_no_rest (Some i) p point known = refl
single_is_no_rest None p point known = by_test (le_z (objective p point) (pos known))
  where
    by_test : (t : Bool) → is_rest (cond t (Close (pos 1) []) (Whole (pos 1) [] (objective p point) (cells_of point))) ≡ false
    by_test true = refl
    by_test false = refl

-- a whole point that is sound is worth no more than the columns can earn
gains : (p : Program) (b : Bounds) (known : ℕ) (m : Mark) → All (λ z. z ≡ pos 0) p.lower.items → most_gain p < 2 ^ 64 → IsInBox p b → IsTested p b m → worked_lemmas.IsBetter known m → IsBetter known m
gains p b known (Split j at licence) z g i t h = tt
gains p b known (Close q ws) z g i t h = tt
gains p b known (Whole q ws worth cells) z g i t h =
    (h, narrow worth (most_gain p) (subst (λ y. y ≤ℤ pos (most_gain p)) (sym t.1.worth_is) (region_gain p z b i _ t.1.point)) g)
  where
    narrow : (x : ℤ) (n : ℕ) → x ≤ℤ pos n → n < 2 ^ 64 → x <ℤ pos (2 ^ 64)
    narrow x n l s = omega (arith, ints)
gains p b known (Rest q ws) z g i t h = tt

tested_of : (p : Program) (b : Bounds) (m : Mark) → IsSound p b m → IsTested p b m
tested_of p b (Split j at licence) h = h
tested_of p b (Close q ws) h = h
tested_of p b (Whole q ws worth cells) h = h
tested_of p b (Rest q ws) h = h

pub single_fair : (p : Program) (b : Bounds) (known : ℕ) → IsFit p → All (λ z. z ≡ pos 0) p.lower.items → most_gain p < 2 ^ 64 → IsInBox p b → b.lower ≡ b.upper → IsFair p b known true (single_mark p b known)
single_fair p b known f z g i e =
    let o = first_unmet_from 0 p.rows.items b.lower in
    let s = single_worked p b known e in
    let w = subst (IsWorked p b known) s (worked p b known f i) in
    let l = subst (IsListed p) s (worked_listed p b known f i (subst IsNarrow (sym s) (single_narrow o p b.lower known))) in
    let t = tested_of p b (single_mark p b known) w.sound in
    record {
      in_box = i;
      tested = t;
      at_most = λ _. w.at_most;
      better = gains p b known (single_mark p b known) z g i t w.better;
      rest = single_is_no_rest o p b.lower known;
      plain = l.plain;
      short = l.short;
    }

-- ---- fractions
pub fractions_count : (xs : List Frac) (n : ℕ) → length xs ≡ n → length (map value xs) ≡ n
fractions_count xs n e = length-map xs value ∙ e
