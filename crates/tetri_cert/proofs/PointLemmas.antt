-- The point of a Whole node.
use Rattle.std.proofs.Common.{◌≡◌, ℕ, ◌<◌, refl, sym, ap, ◌∙◌, subst, arith, List, [], ◌∷◌, length, replicate, Bool, true, false}
use Prim.Native.Nat.{zero, suc}
use Rattle.std.specs.Prelude.{◌≤ℤ◌, ◌&&◌, ◌↔◌, IsTrue, nat_lt}
use Rattle.std.specs.List.{All}
use Rattle.std.proofs.lemmas.Bool.{false≢true}
use Rattle.std.proofs.lemmas.List.{length-set, length-replicate}
use Rattle.std.proofs.lemmas.Int.{ints}
use borrow.Author.Tests.{ltb-true}
use lib.IntN.{ℤ, pos}
use lib.Signed.{le_z}
use Rattle.tetri_ip.specs.declared.programs.Program.{Program}
use Rattle.tetri_ip.specs.declared.programs.Row.{Row}
use Rattle.tetri_ip.specs.Points.{Bounds, IsBetween, IsInBox, IsPoint, MeetsRows, left_side, objective}
use Rattle.tetri_cert.specs.declared.marks.Cell.{Cell}
use Rattle.tetri_cert.specs.Cells.{are_between, are_met, are_of_columns, is_point, is_same, is_whole_point, point_of, with_cells}

-- ---- tests
pub both_true : (a b : Bool) → (a && b) ≡ true → (a ≡ true) × (b ≡ true)
both_true true b h = (refl, h)
both_true false b h = absurd (false≢true h)

at_most : (x y : ℤ) → le_z x y ≡ true → x ≤ℤ y
at_most x y h = grind (arith, ints)

told_at_most : (x y : ℤ) → x ≤ℤ y → le_z x y ≡ true
told_at_most x y h = grind (arith, ints)

are_between_is : (ls xs us : List ℤ) → are_between ls xs us ≡ true → IsBetween (length xs) ls xs us
are_between_is [] [] [] h k l = absurd (omega arith)
are_between_is (a ∷ ls) (x ∷ xs) (u ∷ us) h zero l =
    let e = both_true (le_z a x && le_z x u) (are_between ls xs us) h in
    let f = both_true (le_z a x) (le_z x u) e.0 in
    (at_most a x f.0, at_most x u f.1)
are_between_is (a ∷ ls) (x ∷ xs) (u ∷ us) h (suc k) l =
    are_between_is ls xs us (both_true (le_z a x && le_z x u) (are_between ls xs us) h).1 k (omega arith)
are_between_is [] [] (u ∷ us) h k l = absurd (false≢true h)
are_between_is [] (x ∷ xs) us h k l = absurd (false≢true h)
are_between_is (a ∷ ls) [] us h k l = absurd (false≢true h)
are_between_is (a ∷ ls) (x ∷ xs) [] h k l = absurd (false≢true h)

between_told : (ls xs us : List ℤ) → length ls ≡ length xs → length us ≡ length xs → IsBetween (length xs) ls xs us → are_between ls xs us ≡ true
between_told [] [] [] e f h = refl
between_told (a ∷ ls) (x ∷ xs) (u ∷ us) e f h =
    let m = h 0 (omega arith) in
    let r = between_told ls xs us (omega arith) (omega arith) (λ k l. h (suc k) (omega arith)) in
    ap (λ t. (t && le_z x u) && are_between ls xs us) (told_at_most a x m.0) ∙ ap (λ t. t && are_between ls xs us) (told_at_most x u m.1) ∙ r
between_told [] [] (u ∷ us) e f h = absurd (omega arith)
between_told [] (x ∷ xs) us e f h = absurd (omega arith)
between_told (a ∷ ls) [] us e f h = absurd (omega arith)
between_told (a ∷ ls) (x ∷ xs) [] e f h = absurd (omega arith)

are_met_is : (rows : List Row) (xs : List ℤ) → are_met rows xs ≡ true → MeetsRows rows xs
are_met_is [] xs h k l = absurd (omega arith)
are_met_is (r ∷ rs) xs h zero l = at_most _ _ (both_true (le_z (left_side r.terms.items xs) r.right) (are_met rs xs) h).0
are_met_is (r ∷ rs) xs h (suc k) l = are_met_is rs xs (both_true (le_z (left_side r.terms.items xs) r.right) (are_met rs xs) h).1 k (omega arith)

met_told : (rows : List Row) (xs : List ℤ) → MeetsRows rows xs → are_met rows xs ≡ true
met_told [] xs h = refl
met_told (r ∷ rs) xs h = ap (λ t. t && are_met rs xs) (told_at_most _ _ (h 0 (omega arith))) ∙ met_told rs xs (λ k l. h (suc k) (omega arith))

pub is_point_is : (p : Program) (b : Bounds) (xs : List ℤ) → length xs ≡ length p.costs.items → is_point p b xs ≡ true → IsPoint p b xs
is_point_is p b xs n h =
    let e = both_true (are_between b.lower xs b.upper) (are_met p.rows.items xs) h in
    record { count = n; inside = subst (λ k. IsBetween k b.lower xs b.upper) n (are_between_is b.lower xs b.upper e.0); met = are_met_is p.rows.items xs e.1 }

pub point_told_by_counts : (p : Program) (b : Bounds) (xs : List ℤ) → length b.lower ≡ length p.costs.items → length b.upper ≡ length p.costs.items → IsPoint p b xs → is_point p b xs ≡ true
point_told_by_counts p b xs l u m =
    ap (λ t. t && are_met p.rows.items xs) (between_told b.lower xs b.upper (l ∙ sym m.count) (u ∙ sym m.count) (subst (λ k. IsBetween k b.lower xs b.upper) (sym m.count) m.inside))
    ∙ met_told p.rows.items xs m.met

pub point_told : (p : Program) (b : Bounds) (xs : List ℤ) → IsInBox p b → IsPoint p b xs → is_point p b xs ≡ true
point_told p b xs i m = point_told_by_counts p b xs i.lower_count i.upper_count m

pub point_answer : (p : Program) (b : Bounds) (xs : List ℤ) (answer : Bool) → IsInBox p b → length xs ≡ length p.costs.items → (IsTrue answer ↔ IsPoint p b xs) → answer ≡ is_point p b xs
point_answer p b xs true i n h = sym (point_told p b xs i (h.0 refl))
point_answer p b xs false i n h = by_test (is_point p b xs) refl
  where
    by_test : (t : Bool) → is_point p b xs ≡ t → false ≡ is_point p b xs
    by_test true e = h.1 (is_point_is p b xs n e) ∙ sym e
    by_test false e = sym e

-- a point of a region in the box is in the box
pub in_program_box : (p : Program) (b : Bounds) (xs : List ℤ) → IsInBox p b → IsPoint p b xs → IsBetween (length p.costs.items) p.lower.items xs p.upper.items
in_program_box p b xs i m k l = (at_least _ _ _ (i.above k l) (m.inside k l).0, at_least _ _ _ (m.inside k l).1 (i.below k l))
  where
    at_least : (x y z : ℤ) → x ≤ℤ y → y ≤ℤ z → x ≤ℤ z
    at_least x y z h k = omega (arith, ints)

-- ---- cells
pub columns_below : (n : ℕ) (cells : List Cell) → are_of_columns n cells ≡ true → All (λ c. c.column < n) cells
columns_below n [] h k d l = absurd (omega arith)
columns_below n (c ∷ cs) h zero d l = ltb-true _ _ (both_true (nat_lt c.column n) (are_of_columns n cs) h).0
columns_below n (c ∷ cs) h (suc k) d l = columns_below n cs (both_true (nat_lt c.column n) (are_of_columns n cs) h).1 k d (omega arith)

pub length-with_cells : (xs : List ℤ) (cells : List Cell) → length (with_cells xs cells) ≡ length xs
length-with_cells xs [] = refl
length-with_cells xs (c ∷ cs) = length-with_cells _ cs ∙ length-set xs c.column c.value

pub length-point_of : (n : ℕ) (cells : List Cell) → length (point_of n cells) ≡ n
length-point_of n cells = length-with_cells (replicate n (pos 0)) cells ∙ length-replicate n (pos 0)

pub no_whole_point : (p : Program) (b : Bounds) (worth : ℤ) (cells : List Cell) (n : ℕ) → n ≡ length p.costs.items → are_of_columns n cells ≡ false → false ≡ is_whole_point p b worth cells
unfolding is_whole_point
no_whole_point p b worth cells n e h =
    let xs = point_of (length p.costs.items) cells in
    sym (ap (λ t. t && (is_point p b xs && is_same worth (objective p xs))) (subst (λ k. are_of_columns k cells ≡ false) e h))

pub whole_point_is : (p : Program) (b : Bounds) (worth : ℤ) (cells : List Cell) (n : ℕ) (xs : List ℤ) (answer : Bool) → n ≡ length p.costs.items → are_of_columns n cells ≡ true → xs ≡ point_of n cells →
    answer ≡ (is_point p b xs && is_same worth (objective p xs)) → answer ≡ is_whole_point p b worth cells
unfolding is_whole_point
whole_point_is p b worth cells n xs answer e h x a =
    let ys = point_of (length p.costs.items) cells in
    let f : xs ≡ ys = subst (λ k. xs ≡ point_of k cells) e x in
    a ∙ ap (λ (zs : List ℤ). is_point p b zs && is_same worth (objective p zs)) f
    ∙ sym (ap (λ t. t && (is_point p b ys && is_same worth (objective p ys))) (subst (λ k. are_of_columns k cells ≡ true) e h))
