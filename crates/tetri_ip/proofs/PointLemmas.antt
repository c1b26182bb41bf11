-- The first row that a point breaks.
use Rattle.std.proofs.Common.{◌≡◌, ℕ, ◌+◌, ◌<◌, refl, ap, ◌∙◌, arith, List, [], ◌∷◌, length, Bool, true, false, cond, Some, None}
use Prim.Native.Nat.{zero, suc}
use Rattle.std.specs.Prelude.{◌≤ℤ◌, ◌<ℤ◌}
use Rattle.std.proofs.lemmas.Int.{ints, by_lt_z}
use lib.IntN.{ℤ}
use lib.Signed.{lt_z}
use Rattle.tetri_ip.specs.declared.programs.Row.{Row}
use Rattle.tetri_ip.specs.Points.{MeetsRows, first_unmet_from, left_side, right_of, terms_of}

at_most : (x y : ℤ) → lt_z y x ≡ false → x ≤ℤ y
at_most x y h = by_lt_z y x (λ k. absurd (omega (arith, ints))) (λ k. k)

above : (x y : ℤ) → lt_z y x ≡ true → y <ℤ x
above x y h = by_lt_z y x (λ k. k) (λ k. absurd (omega (arith, ints)))

not_above : (x y : ℤ) → x ≤ℤ y → lt_z y x ≡ false
not_above x y h = grind (arith, ints)

-- where there is none, each row is met
pub first_unmet_none : (i : ℕ) (rows : List Row) (point : List ℤ) → first_unmet_from i rows point ≡ None → MeetsRows rows point
first_unmet_none i [] point e k l = absurd (omega arith)
first_unmet_none i (r ∷ rs) point e k l = by_test (λ f m n. first_unmet_none (i + 1) rs point f m n) (lt_z r.right (left_side r.terms.items point)) refl e k l
  where
    by_test : (first_unmet_from (i + 1) rs point ≡ None → MeetsRows rs point) → (t : Bool) → lt_z r.right (left_side r.terms.items point) ≡ t → cond t (Some i) (first_unmet_from (i + 1) rs point) ≡ None → MeetsRows (r ∷ rs) point
    by_test rec true g f k l = cc
    by_test rec false g f zero l = at_most (left_side r.terms.items point) r.right g
    by_test rec false g f (suc k) l = rec f k (omega arith)

-- the row, and that the point breaks it
pub record IsUnmet (i : ℕ) (rows : List Row) (point : List ℤ) (found : ℕ) : Type 0 where
  pub place : ℕ
  pub number : found ≡ i + place
  pub in_list : place < length rows
  pub broken : right_of rows place <ℤ left_side (terms_of rows place) point

pub first_unmet_some : (i : ℕ) (rows : List Row) (point : List ℤ) (found : ℕ) → first_unmet_from i rows point ≡ Some found → IsUnmet i rows point found
first_unmet_some i [] point found e = cc
first_unmet_some i (r ∷ rs) point found e = by_test (λ f. first_unmet_some (i + 1) rs point found f) (lt_z r.right (left_side r.terms.items point)) refl e
  where
    by_test : (first_unmet_from (i + 1) rs point ≡ Some found → IsUnmet (i + 1) rs point found) → (t : Bool) → lt_z r.right (left_side r.terms.items point) ≡ t → cond t (Some i) (first_unmet_from (i + 1) rs point) ≡ Some found → IsUnmet i (r ∷ rs) point found
    by_test rec true g f =
        let e : i ≡ found = cc in
        record { place = zero; number = omega arith; in_list = omega arith; broken = above (left_side r.terms.items point) r.right g }
    by_test rec false g f =
        let u = rec f in
        record { place = suc u.place; number = omega (arith, u.number); in_list = omega (arith, u.in_list); broken = u.broken }

-- where each row is met there is none
pub met_first_unmet : (i : ℕ) (rows : List Row) (point : List ℤ) → MeetsRows rows point → first_unmet_from i rows point ≡ None
met_first_unmet i [] point h = refl
met_first_unmet i (r ∷ rs) point h =
    ap (λ t. cond t (Some i) (first_unmet_from (i + 1) rs point)) (not_above (left_side r.terms.items point) r.right (h 0 (omega arith)))
    ∙ met_first_unmet (i + 1) rs point (λ k l. h (suc k) (omega arith))
