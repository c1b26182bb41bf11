-- The columns at which a region is split.
use Rattle.std.proofs.Common.{◌≡◌, ℕ, ◌+◌, ◌<◌, refl, ap, ◌∙◌, arith, List, [], ◌∷◌, length, cond, eqb, Bool, true, false, Some, None}
use Prim.Native.Nat.{zero, suc}
use Rattle.std.specs.Prelude.{◌≤ℤ◌, ◌<ℤ◌}
use Rattle.std.specs.Int.{int_div_euclid}
use Rattle.std.specs.List.{All}
use Rattle.std.proofs.lemmas.Bool.{eqb-true}
use Rattle.std.proofs.lemmas.Bool.Decides.{nat_tests}
use Rattle.std.proofs.lemmas.Int.{ints, by_lt_z}
use Rattle.std.proofs.lemmas.List.Elements.{All-cons, All-nil}
use lib.IntN.{ℤ, pos, ◌+ℤ◌, ◌-ℤ◌, ◌*ℤ◌}
use lib.Signed.{lt_z}
use Rattle.tetri_algebra.specs.Quotients.{div_above, div_below}
use Rattle.tetri_algebra.specs.Rational.{ℚ}
use Rattle.tetri_algebra.specs.RationalOrder.{floor_ℚ}
use Rattle.tetri_ip.specs.Points.{number_at}
use Rattle.tetri_simplex.specs.Relaxation.{IsWhole, coordinate}
use Rattle.tetri_search.specs.declared.branches.Branch.{Branch}
use Rattle.tetri_search.specs.Table.{fractional_from, unfixed_from}

-- ---- a column with more than one number
pub record IsUnfixed (j : ℕ) (ls us : List ℤ) (c : Branch) : Type 0 where
  pub place : ℕ
  pub number : c.column ≡ j + place
  pub in_list : place < length ls
  pub low : number_at ls place ≤ℤ c.at
  pub high : c.at <ℤ number_at us place

half : (l u : ℤ) → l <ℤ u → (l ≤ℤ (l +ℤ int_div_euclid (u -ℤ l) (pos 2))) × ((l +ℤ int_div_euclid (u -ℤ l) (pos 2)) <ℤ u)
half l u h =
    let d = u -ℤ l in
    let two : pos 0 <ℤ pos 2 = omega (arith, ints) in
    ends (int_div_euclid d (pos 2)) (div_below d (pos 2) two) (div_above d (pos 2) two)
  where
    ends : (q : ℤ) → (q *ℤ pos 2) ≤ℤ (u -ℤ l) → (u -ℤ l) <ℤ ((q +ℤ pos 1) *ℤ pos 2) → (l ≤ℤ (l +ℤ q)) × ((l +ℤ q) <ℤ u)
    ends q a b = (omega (arith, ints), omega (arith, ints))

pub unfixed_is : (j : ℕ) (ls us : List ℤ) (c : Branch) → unfixed_from j ls us ≡ Some c → IsUnfixed j ls us c
unfixed_is j [] us c e = cc
unfixed_is j (l ∷ ls) [] c e = cc
unfixed_is j (l ∷ ls) (u ∷ us) c e = by_test (λ f. unfixed_is (j + 1) ls us c f) (lt_z l u) refl e
  where
    below : (x y : ℤ) → lt_z x y ≡ true → x <ℤ y
    below x y h = by_lt_z x y (λ k. k) (λ k. absurd (omega (arith, ints)))

    by_test : (unfixed_from (j + 1) ls us ≡ Some c → IsUnfixed (j + 1) ls us c) → (t : Bool) → lt_z l u ≡ t → cond t (Some (record { column = j; at = l +ℤ int_div_euclid (u -ℤ l) (pos 2) })) (unfixed_from (j + 1) ls us) ≡ Some c → IsUnfixed j (l ∷ ls) (u ∷ us) c
    by_test rec true g f =
        let h = half l u (below l u g) in
        let e : c.column ≡ j = cc in
        let a : c.at ≡ l +ℤ int_div_euclid (u -ℤ l) (pos 2) = cc in
        record { place = zero; number = omega arith; in_list = omega arith; low = rw a h.0; high = rw a h.1 }
    by_test rec false g f =
        let w = rec f in
        record { place = suc w.place; number = omega (arith, w.number); in_list = omega (arith, w.in_list); low = w.low; high = w.high }

-- where there is none, the region is one point
pub none_unfixed : (j : ℕ) (ls us : List ℤ) → length ls ≡ length us → ((k : ℕ) → k < length ls → number_at ls k ≤ℤ number_at us k) → unfixed_from j ls us ≡ None → ls ≡ us
none_unfixed j [] [] n h e = refl
none_unfixed j [] (u ∷ us) n h e = absurd (omega arith)
none_unfixed j (l ∷ ls) [] n h e = absurd (omega arith)
none_unfixed j (l ∷ ls) (u ∷ us) n h e = by_test (λ f. none_unfixed (j + 1) ls us (omega arith) (λ k m. h (suc k) (omega arith)) f) (lt_z l u) refl e
  where
    same : (x y : ℤ) → lt_z x y ≡ false → x ≤ℤ y → x ≡ y
    same x y g k = let m : y ≤ℤ x = by_lt_z x y (λ i. absurd (omega (arith, ints))) (λ i. i) in omega (arith, ints)

    by_test : (unfixed_from (j + 1) ls us ≡ None → ls ≡ us) → (t : Bool) → lt_z l u ≡ t → cond t (Some (record { column = j; at = l +ℤ int_div_euclid (u -ℤ l) (pos 2) })) (unfixed_from (j + 1) ls us) ≡ None → l ∷ ls ≡ u ∷ us
    by_test rec true g f = cc
    by_test rec false g f = ap (λ x. x ∷ ls) (same l u g (h 0 (omega arith))) ∙ ap (λ xs. u ∷ xs) (rec f)

-- ---- a column whose number is not whole
pub record IsFractional (j : ℕ) (xs : List ℚ) (c : Branch) : Type 0 where
  pub place : ℕ
  pub number : c.column ≡ j + place
  pub in_list : place < length xs
  pub floor : c.at ≡ floor_ℚ (coordinate xs place)
  pub not_whole : IsWhole (coordinate xs place) → ⊥

pub fractional_is : (j : ℕ) (xs : List ℚ) (c : Branch) → fractional_from j xs ≡ Some c → IsFractional j xs c
fractional_is j [] c e = cc
fractional_is j (x ∷ xs) c e = by_test (λ f. fractional_is (j + 1) xs c f) (eqb x.den 1) refl e
  where
    not_one : (n : ℕ) → eqb n 1 ≡ false → n ≡ 1 → ⊥
    not_one n g h = absurd (grind (arith, nat_tests))

    by_test : (fractional_from (j + 1) xs ≡ Some c → IsFractional (j + 1) xs c) → (t : Bool) → eqb x.den 1 ≡ t → cond t (fractional_from (j + 1) xs) (Some (record { column = j; at = floor_ℚ x })) ≡ Some c → IsFractional j (x ∷ xs) c
    by_test rec true g f =
        let w = rec f in
        record { place = suc w.place; number = omega (arith, w.number); in_list = omega (arith, w.in_list); floor = w.floor; not_whole = w.not_whole }
    by_test rec false g f =
        let e : c.column ≡ j = cc in
        record { place = zero; number = omega arith; in_list = omega arith; floor = cc; not_whole = not_one x.den g }

pub none_fractional : (j : ℕ) (xs : List ℚ) → fractional_from j xs ≡ None → All IsWhole xs
none_fractional j [] e = All-nil IsWhole
none_fractional j (x ∷ xs) e = by_test (λ f. none_fractional (j + 1) xs f) (eqb x.den 1) refl e
  where
    by_test : (fractional_from (j + 1) xs ≡ None → All IsWhole xs) → (t : Bool) → eqb x.den 1 ≡ t → cond t (fractional_from (j + 1) xs) (Some (record { column = j; at = floor_ℚ x })) ≡ None → All IsWhole (x ∷ xs)
    by_test rec true g f = All-cons IsWhole x xs (eqb-true x.den 1 g) (rec f)
    by_test rec false g f = cc
