-- One step of each loop over weights and over columns.
use Rattle.std.proofs.Common.{◌≡◌, ℕ, ◌+◌, ◌<◌, ◌≤◌, refl, sym, ap, ◌∙◌, subst, arith, List, [], ◌∷◌, length, get_or, drop, Bool, true, false}
use Prim.Native.Nat.{suc}
use Rattle.std.specs.Prelude.{◌≤ℤ◌, ◌<ℤ◌, nat_lt}
use Rattle.std.proofs.lemmas.Bool.Decides.{nat_tests}
use Rattle.std.proofs.Math.Seq.{drop-cons}
use Rattle.std.proofs.lemmas.Int.{ints}
use Rattle.std.proofs.lemmas.List.{drop_all}
use lib.IntN.{ℤ, pos}
use Rattle.tetri_algebra.specs.Range.{IsWithin}
use Rattle.tetri_ip.specs.declared.programs.Program.{Program}
use Rattle.tetri_ip.specs.declared.programs.Weight.{Weight}
use Rattle.tetri_ip.specs.Points.{Bounds, IsInBox, number_at}
use Rattle.tetri_swift.specs.Weights.{Climb}

drop_more : {X : Type 0} → (xs : List X) (j : ℕ) (x : X) → j < length xs → x ≡ get_or xs j x → drop j xs ≡ x ∷ drop (j + 1) xs
drop_more xs j x l e = let s : suc j ≡ j + 1 = omega arith in drop-cons xs j x l ∙ ap (λ y. y ∷ drop (suc j) xs) (sym e) ∙ ap (λ k. x ∷ drop k xs) s

-- ---- weights
pub climb_step : (rows least next : ℕ) (ws : List Weight) (i : ℕ) (w : Weight) → i < length ws → w ≡ get_or ws i w → least ≤ w.row → w.row < rows → pos 0 <ℤ w.by → IsWithin w.by → next ≡ w.row + 1 → Climb rows next (drop (i + 1) ws) → Climb rows least (drop i ws)
climb_step rows least next ws i w l e a b c d n h =
    subst (Climb rows least) (sym (drop_more ws i w l e)) (a, b, c, d, subst (λ k. Climb rows k (drop (i + 1) ws)) n h)

pub climb_end : (rows least : ℕ) (ws : List Weight) (i : ℕ) → length ws ≤ i → Climb rows least (drop i ws)
climb_end rows least ws i h = subst (Climb rows least) (sym (drop_all i ws h)) tt

-- ---- columns
same_numbers : (ls us : List ℤ) → length ls ≡ length us → ((k : ℕ) → k < length ls → number_at ls k ≡ number_at us k) → ls ≡ us
same_numbers [] [] n h = refl
same_numbers [] (u ∷ us) n h = absurd (omega arith)
same_numbers (l ∷ ls) [] n h = absurd (omega arith)
same_numbers (l ∷ ls) (u ∷ us) n h =
    let a : l ≡ u = h 0 (omega arith) in
    let b : ls ≡ us = same_numbers ls us (omega arith) (λ k m. h (suc k) (omega arith)) in
    ap (λ x. x ∷ ls) a ∙ ap (λ xs. u ∷ xs) b

pub single_point : (p : Program) (b : Bounds) (n : ℕ) → IsInBox p b → length p.costs.items ≤ n → ((k : ℕ) → k < n → number_at b.lower k ≡ number_at b.upper k) → b.lower ≡ b.upper
single_point p b n i l h = same_numbers b.lower b.upper (i.lower_count ∙ sym i.upper_count) (λ k m. h k (let e = i.lower_count in omega arith))

pub same_so_far : (p : Program) (b : Bounds) (j : ℕ) → IsInBox p b → j < length p.costs.items → ((k : ℕ) → k < j → number_at b.lower k ≡ number_at b.upper k) → number_at b.upper j ≤ℤ number_at b.lower j
    → (k : ℕ) → k < j + 1 → number_at b.lower k ≡ number_at b.upper k
same_so_far p b j i l h g k m = by_test k m (nat_lt k j) refl
  where
    equal : (x y : ℤ) → x ≤ℤ y → y ≤ℤ x → x ≡ y
    equal x y a c = omega (arith, ints)

    here : number_at b.lower j ≡ number_at b.upper j
    here = equal (number_at b.lower j) (number_at b.upper j) (i.ordered j l) g

    last : (k : ℕ) → k ≡ j → number_at b.lower k ≡ number_at b.upper k
    last k e = ap (number_at b.lower) e ∙ here ∙ sym (ap (number_at b.upper) e)

    is_below : (k j : ℕ) → nat_lt k j ≡ true → k < j
    is_below k j e = grind (arith, nat_tests)

    is_same : (k j : ℕ) → k < j + 1 → nat_lt k j ≡ false → k ≡ j
    is_same k j m e = grind (arith, nat_tests)

    by_test : (k : ℕ) → k < j + 1 → (t : Bool) → nat_lt k j ≡ t → number_at b.lower k ≡ number_at b.upper k
    by_test k m true e = h k (is_below k j e)
    by_test k m false e = last k (is_same k j m e)
