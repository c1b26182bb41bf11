-- The cells of a point: they give the point back, are plain and are no more than its numbers.
use Rattle.std.proofs.Common.{◌≡◌, ℕ, ◌+◌, ◌^◌, ◌<◌, ◌≤◌, refl, sym, ap, ◌∙◌, arith, List, [], ◌∷◌, ◌++◌, length, replicate, Bool, true, false, cond, eqb, Option, Some, None}
use Prim.Native.Nat.{suc}
use Rattle.std.specs.Prelude.{slice_set, unsigned_abs}
use Rattle.std.specs.List.{All}
use Rattle.std.proofs.lemmas.Bool.{eqb-true}
use Rattle.std.proofs.lemmas.Bool.Decides.{nat_tests}
use Rattle.std.proofs.lemmas.Int.{ints}
use Rattle.std.proofs.lemmas.List.{append_assoc, length-append}
use Rattle.std.proofs.lemmas.List.Elements.{All-cons, All-nil, All-append}
use lib.IntN.{ℤ, pos}
use Rattle.tetri_algebra.specs.Rational.{ℚ}
use Rattle.tetri_num.specs.declared.fractions.Frac.{Frac}
use Rattle.tetri_num.specs.Frac.{value}
use Rattle.tetri_algebra.specs.Range.{IsWithin}
use Rattle.tetri_num.proofs.FractionLaws.{num-value, den-value}
use Rattle.tetri_ip.specs.Points.{number_at}
use Rattle.tetri_cert.specs.declared.marks.Cell.{Cell}
use Rattle.tetri_cert.specs.declared.marks.FracCell.{FracCell}
use Rattle.tetri_cert.specs.Cells.{AreOfColumns, cell_at, cells_from, cells_of, frac_cell_at, frac_cells_from, frac_cells_of, point_of, with_cells}
use Rattle.tetri_cert.specs.Lists.{Ascend}
use Rattle.tetri_cert.specs.NodeText.{IsPlainPoint}
use Rattle.tetri_cert.specs.Numbers.{frac_of}
use Rattle.tetri_cert.specs.Pairs.{IsPlainCell, IsPlainFracCell, cell_key, frac_cell_key}
use Rattle.tetri_cert.proofs.NumbersReduced.{frac_of-parts}

zero_of : (x : ℤ) → eqb (unsigned_abs x) 0 ≡ true → x ≡ pos 0
zero_of x e = let h = eqb-true _ _ e in omega (arith, ints)

not_zero : (x : ℤ) → eqb (unsigned_abs x) 0 ≡ false → x ≡ pos 0 → ⊥
not_zero x e h = let z : unsigned_abs x ≡ 0 = omega (arith, ints) in absurd (grind (arith, nat_tests))

-- ---- back to the point
with_cells-append : (xs : List ℤ) (cs ds : List Cell) → with_cells xs (cs ++ ds) ≡ with_cells (with_cells xs cs) ds
with_cells-append xs [] ds = refl
with_cells-append xs (c ∷ cs) ds = with_cells-append (slice_set xs c.column c.value) cs ds

set_behind : (ys : List ℤ) (x z : ℤ) (zs : List ℤ) → slice_set (ys ++ z ∷ zs) (length ys) x ≡ ys ++ x ∷ zs
set_behind [] x z zs = refl
set_behind (y ∷ ys) x z zs = ap (λ w. y ∷ w) (set_behind ys x z zs)

with_cell : (ys : List ℤ) (x : ℤ) (zs : List ℤ) → with_cells (ys ++ pos 0 ∷ zs) (cell_at (length ys) x) ≡ ys ++ x ∷ zs
with_cell ys x zs = by_test (eqb (unsigned_abs x) 0) refl
  where
    by_test : (t : Bool) → eqb (unsigned_abs x) 0 ≡ t → with_cells (ys ++ pos 0 ∷ zs) (cond t [] (record { column = length ys; value = x } ∷ [])) ≡ ys ++ x ∷ zs
    by_test true e = ap (λ z. ys ++ z ∷ zs) (sym (zero_of x e))
    by_test false e = set_behind ys x (pos 0) zs

with_cells_from : (ys xs : List ℤ) → with_cells (ys ++ replicate (length xs) (pos 0)) (cells_from (length ys) xs) ≡ ys ++ xs
with_cells_from ys [] = refl
with_cells_from ys (x ∷ xs) =
    let rest = replicate (length xs) (pos 0) in
    let n : length ys + 1 ≡ length (ys ++ x ∷ []) = sym (length-append ys (x ∷ [])) in
    with_cells-append (ys ++ pos 0 ∷ rest) (cell_at (length ys) x) (cells_from (length ys + 1) xs)
    ∙ ap (λ w. with_cells w (cells_from (length ys + 1) xs)) (with_cell ys x rest ∙ sym (append_assoc ys (x ∷ []) rest))
    ∙ ap (λ k. with_cells ((ys ++ x ∷ []) ++ rest) (cells_from k xs)) n
    ∙ with_cells_from (ys ++ x ∷ []) xs
    ∙ append_assoc ys (x ∷ []) xs

pub point_of-cells_of : (xs : List ℤ) → point_of (length xs) (cells_of xs) ≡ xs
point_of-cells_of xs = with_cells_from [] xs

-- ---- columns and lengths
columns_from : (n j : ℕ) (xs : List ℤ) → j + length xs ≤ n → AreOfColumns n (cells_from j xs)
columns_from n j [] h = All-nil (λ (c : Cell). c.column < n)
columns_from n j (x ∷ xs) h = All-append (λ (c : Cell). c.column < n) (cell_at j x) (cells_from (j + 1) xs) (by_test (eqb (unsigned_abs x) 0)) (columns_from n (j + 1) xs (omega arith))
  where
    by_test : (t : Bool) → All (λ (c : Cell). c.column < n) (cond t [] (record { column = j; value = x } ∷ []))
    by_test true = All-nil (λ (c : Cell). c.column < n)
    by_test false = All-cons (λ (c : Cell). c.column < n) (record { column = j; value = x }) [] (omega arith) (All-nil (λ (c : Cell). c.column < n))

pub cells_of-columns : (xs : List ℤ) → AreOfColumns (length xs) (cells_of xs)
cells_of-columns xs = columns_from (length xs) 0 xs (omega arith)

pub cells_from-length : (j : ℕ) (xs : List ℤ) → length (cells_from j xs) ≤ length xs
cells_from-length j [] = omega arith
cells_from-length j (x ∷ xs) =
    let a = by_test (eqb (unsigned_abs x) 0) in
    let r = cells_from-length (j + 1) xs in
    let e = length-append (cell_at j x) (cells_from (j + 1) xs) in
    omega arith
  where
    by_test : (t : Bool) → length {A = Cell} (cond t [] (record { column = j; value = x } ∷ [])) ≤ 1
    by_test true = omega arith
    by_test false = omega arith

pub cells_of-length : (xs : List ℤ) → length (cells_of xs) ≤ length xs
cells_of-length xs = cells_from-length 0 xs

-- ---- plain cells
ascend_cells : (least j : ℕ) (xs : List ℤ) → least ≤ j → j + length xs ≤ 2 ^ 32 → ((k : ℕ) → k < length xs → IsWithin (number_at xs k)) → Ascend cell_key IsPlainCell least (cells_from j xs)
ascend_cells least j [] h l w = tt
ascend_cells least j (x ∷ xs) h l w = by_test (eqb (unsigned_abs x) 0) refl (λ m k. ascend_cells m (j + 1) xs k (omega arith) (λ k n. w (suc k) (omega arith)))
  where
    by_test : (t : Bool) → eqb (unsigned_abs x) 0 ≡ t → ((m : ℕ) → m ≤ j + 1 → Ascend cell_key IsPlainCell m (cells_from (j + 1) xs)) → Ascend cell_key IsPlainCell least (cond t [] (record { column = j; value = x } ∷ []) ++ cells_from (j + 1) xs)
    by_test true e rec = rec least (omega arith)
    by_test false e rec = (h, record { narrow = omega arith; nonzero = not_zero x e; within = w 0 (omega arith) }, rec (j + 1) (omega arith))

pub cells_of-plain : (xs : List ℤ) → length xs ≤ 2 ^ 32 → ((k : ℕ) → k < length xs → IsWithin (number_at xs k)) → IsPlainPoint (cells_of xs)
cells_of-plain xs l w = ascend_cells 0 0 xs (omega arith) (omega arith) w

-- ---- fractions
pub frac_of-value : (x : Frac) → frac_of (value x).num (pos (value x).den) ≡ Some x
frac_of-value x = sym (frac_of-parts x (value x).num (pos (value x).den) (sym (num-value x)) (sym (den-value x)))

pub frac_cells_more : (j : ℕ) (x : Frac) (xs : List ℚ) → frac_cells_from j (value x ∷ xs) ≡ frac_cell_at j (Some x) ++ frac_cells_from (j + 1) xs
frac_cells_more j x xs = ap (λ o. frac_cell_at j o ++ frac_cells_from (j + 1) xs) (frac_of-value x)

ascend_frac_cells : (least j : ℕ) (xs : List ℚ) → least ≤ j → j + length xs ≤ 2 ^ 32 → Ascend frac_cell_key IsPlainFracCell least (frac_cells_from j xs)
ascend_frac_cells least j [] h l = tt
ascend_frac_cells least j (x ∷ xs) h l = by_frac (frac_of x.num (pos x.den)) (λ m k. ascend_frac_cells m (j + 1) xs k (omega arith))
  where
    by_test : (f : Frac) (t : Bool) → eqb (unsigned_abs f.num) 0 ≡ t → ((m : ℕ) → m ≤ j + 1 → Ascend frac_cell_key IsPlainFracCell m (frac_cells_from (j + 1) xs)) → Ascend frac_cell_key IsPlainFracCell least (cond t [] (record { column = j; value = f } ∷ []) ++ frac_cells_from (j + 1) xs)
    by_test f true e rec = rec least (omega arith)
    by_test f false e rec = (h, record { narrow = omega arith; nonzero = not_zero f.num e }, rec (j + 1) (omega arith))

    by_frac : (o : Option Frac) → ((m : ℕ) → m ≤ j + 1 → Ascend frac_cell_key IsPlainFracCell m (frac_cells_from (j + 1) xs)) → Ascend frac_cell_key IsPlainFracCell least (frac_cell_at j o ++ frac_cells_from (j + 1) xs)
    by_frac None rec = rec least (omega arith)
    by_frac (Some f) rec = by_test f (eqb (unsigned_abs f.num) 0) refl rec

pub frac_cells_of-plain : (xs : List ℚ) → length xs ≤ 2 ^ 32 → Ascend frac_cell_key IsPlainFracCell 0 (frac_cells_of xs)
frac_cells_of-plain xs l = ascend_frac_cells 0 0 xs (omega arith) (omega arith)

pub frac_cells_from-length : (j : ℕ) (xs : List ℚ) → length (frac_cells_from j xs) ≤ length xs
frac_cells_from-length j [] = omega arith
frac_cells_from-length j (x ∷ xs) =
    let a = by_frac (frac_of x.num (pos x.den)) in
    let r = frac_cells_from-length (j + 1) xs in
    let e = length-append (frac_cell_at j (frac_of x.num (pos x.den))) (frac_cells_from (j + 1) xs) in
    omega arith
  where
    by_test : (f : Frac) (t : Bool) → length {A = FracCell} (cond t [] (record { column = j; value = f } ∷ [])) ≤ 1
    by_test f true = omega arith
    by_test f false = omega arith

    by_frac : (o : Option Frac) → length (frac_cell_at j o) ≤ 1
    by_frac None = omega arith
    by_frac (Some f) = by_test f (eqb (unsigned_abs f.num) 0)

pub frac_cells_of-length : (xs : List ℚ) → length (frac_cells_of xs) ≤ length xs
frac_cells_of-length xs = frac_cells_from-length 0 xs
