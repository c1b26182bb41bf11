-- Sums against the order, of whole and of rational numbers.
use Rattle.std.proofs.Common.{◌≡◌, refl, arith, List, [], ◌∷◌, Bool, true, false, cond}
use Rattle.std.specs.Prelude.{◌≤ℤ◌}
use Rattle.std.specs.List.{All}
use Rattle.std.proofs.lemmas.Int.{ints}
use Rattle.std.proofs.lemmas.List.Elements.{All-head, All-tail}
use lib.IntN.{ℤ, pos, ◌+ℤ◌, ◌*ℤ◌}
use lib.Signed.{lt_z}
use Rattle.tetri_algebra.specs.Integers.{mul_le_of_nonnegative, mul_le_of_nonpositive}
use Rattle.tetri_algebra.specs.IntegerRing.{ℤ_ring}
use Rattle.tetri_algebra.specs.Rational.{ℚ}
use Rattle.tetri_algebra.specs.RationalRing.{ℚ_ring, zero_ℚ}
use Rattle.tetri_algebra.specs.RationalOrder.{◌≤ℚ◌, ≤ℚ_refl, +ℚ-≤ℚ_both}
use Rattle.tetri_algebra.specs.Sums.{sum_over}

pub sum_over-≤ℤ : {X : Type 0} → (f g : X → ℤ) (xs : List X) → All (λ x. f x ≤ℤ g x) xs → sum_over ℤ_ring f xs ≤ℤ sum_over ℤ_ring g xs
sum_over-≤ℤ f g [] h = omega (arith, ints)
sum_over-≤ℤ f g (x ∷ xs) h = both (f x) (g x) _ _ (All-head (λ z. f z ≤ℤ g z) x xs h) (sum_over-≤ℤ f g xs (All-tail (λ z. f z ≤ℤ g z) x xs h))
  where
    both : (a b c d : ℤ) → a ≤ℤ b → c ≤ℤ d → (a +ℤ c) ≤ℤ (b +ℤ d)
    both a b c d h k = omega (arith, ints)

pub sum_over-≤ℚ : {X : Type 0} → (f g : X → ℚ) (xs : List X) → All (λ x. f x ≤ℚ g x) xs → sum_over ℚ_ring f xs ≤ℚ sum_over ℚ_ring g xs
sum_over-≤ℚ f g [] h = ≤ℚ_refl zero_ℚ
sum_over-≤ℚ f g (x ∷ xs) h = +ℚ-≤ℚ_both (f x) (g x) _ _ (All-head (λ z. f z ≤ℚ g z) x xs h) (sum_over-≤ℚ f g xs (All-tail (λ z. f z ≤ℚ g z) x xs h))

-- a product with a number between two bounds is at most that with the bound that its sign takes
pub mul_le_bound : (d x lower upper : ℤ) → lower ≤ℤ x → x ≤ℤ upper → (d *ℤ x) ≤ℤ (d *ℤ cond (lt_z (pos 0) d) upper lower)
mul_le_bound d x lower upper h k = by_sign (lt_z (pos 0) d) refl
  where
    by_sign : (t : Bool) → lt_z (pos 0) d ≡ t → (d *ℤ x) ≤ℤ (d *ℤ cond t upper lower)
    by_sign true e = mul_le_of_nonnegative d x upper (omega (arith, ints)) k
    by_sign false e = mul_le_of_nonpositive d x lower (omega (arith, ints)) h
