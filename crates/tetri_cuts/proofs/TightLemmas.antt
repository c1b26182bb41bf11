-- The steps of tightening.
use Rattle.std.proofs.Common.{◌≡◌, ℕ, ◌+◌, ◌<◌, ◌≤◌, refl, sym, ap, ◌∙◌, subst, arith, All, List, length, get_or}
use Rattle.std.specs.Prelude.{unsigned_abs, Bool, IsTrue, ◌↔◌, true, false}
use Rattle.std.proofs.lemmas.Int.{ints, to_z-of_z, to_z_pos}
use Rattle.std.proofs.lemmas.List.{get_or_default, length-map}
use borrow.Author.Count.{below_more}
use lib.IntN.{pos}
use mir.Val.{of_z, to_z}
use mir.Syntax.{w128}
use Rattle.tetri_algebra.specs.RationalRing.{zero_ℚ}
use Rattle.tetri_num.specs.declared.fractions.Frac.{Frac}
use Rattle.tetri_num.specs.Frac.{value}
use Rattle.tetri_dictionary.specs.Fractions.{values}
use Rattle.tetri_simplex.specs.Relaxation.{IsWhole, coordinate}
use Rattle.tetri_cuts.proofs.BreakLemmas.{coordinate_is}
use Rattle.tetri_cuts.proofs.CutSteps.{within_fits}
use Rattle.tetri_cuts.proofs.FitSteps.{not_so}

-- ---- whole points
whole_from : (x : Frac) → x.den ≡ pos 1 → IsWhole (value x)
unfolding value
whole_from x e = ap unsigned_abs e

den_of : (x : Frac) → IsWhole (value x) → x.den ≡ pos 1
unfolding value
den_of x e = let h = x.lowest.positive in omega (arith, ints)

-- a denominator, as the code reads it
den_read : (x : Frac) → of_z w128 x.den ≡ 1 → x.den ≡ pos 1
den_read x e = sym (to_z-of_z w128 x.den (within_fits x.den x.lowest.den_within)) ∙ ap (to_z w128) e ∙ to_z_pos w128 1 (omega arith)

pub whole_more : (xs : List Frac) (i : ℕ) (x : Frac) → i < length xs → x ≡ get_or xs i x → of_z w128 (get_or xs i x).den ≡ 1 → ((k : ℕ) → k < i → IsWhole (coordinate (values xs) k)) →
    (k : ℕ) → k < i + 1 → IsWhole (coordinate (values xs) k)
whole_more xs i x l e one below = below_more (λ k. IsWhole (coordinate (values xs) k)) i below (subst IsWhole (sym (coordinate_is xs i x l e)) (whole_from x (den_read x (subst (λ (y : Frac). of_z w128 y.den ≡ 1) (sym e) one))))

pub whole_all : (xs : List Frac) (i : ℕ) → length xs ≤ i → ((k : ℕ) → k < i → IsWhole (coordinate (values xs) k)) → All IsWhole (values xs)
whole_all xs i l below k d inside =
    let n : k < i = omega (arith, inside, length-map xs value, l) in
    subst IsWhole (get_or_default (values xs) k zero_ℚ d inside) (below k n)

pub not_whole_at : (xs : List Frac) (i : ℕ) (x : Frac) → i < length xs → x ≡ get_or xs i x → (of_z w128 (get_or xs i x).den ≡ 1 → ⊥) → All IsWhole (values xs) → ⊥
not_whole_at xs i x l e n all =
    let inside : i < length (values xs) = omega (arith, l, length-map xs value) in
    n (subst (λ (y : Frac). of_z w128 y.den ≡ 1) e (ap (of_z w128) (den_of x (subst IsWhole (coordinate_is xs i x l e) (all i zero_ℚ inside)))))

pub is_not_whole : (xs : List Frac) (i : ℕ) (x : Frac) → i < length xs → x ≡ get_or xs i x → (of_z w128 (get_or xs i x).den ≡ 1 → ⊥) → IsTrue false ↔ All IsWhole (values xs)
is_not_whole xs i x l e n = not_so (All IsWhole (values xs)) (not_whole_at xs i x l e n)

-- what holds is told by `true`
pub so : (A : Type 0) → A → IsTrue true ↔ A
so A a = (λ t. a, λ b. refl)

-- what a test answers `false` to does not hold
pub not_by : (b : Bool) (A : Type 0) → IsTrue b ↔ A → b ≡ false → A → ⊥
not_by b A h f a = let t = h.1 a in cc
