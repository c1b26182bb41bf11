-- Rows of whole numbers over one denominator.
use Rattle.std.specs.Prelude.{ℕ, List, [], ◌∷◌, map, get_or, set, unsigned_abs, ◌*ℤ◌, ◌+ℤ◌}
use lib.IntN.{ℤ, pos, negsuc}
use Rattle.tetri_algebra.specs.Rational.{ℚ, fraction, whole_ℚ}
use Rattle.tetri_algebra.specs.RationalRing.{◌+ℚ◌, ◌*ℚ◌, neg_ℚ, zero_ℚ}
use Rattle.tetri_algebra.specs.RationalReciprocal.{◌/ℚ◌}

-- the row's numbers in lowest terms
abbrev pub meaning : ℤ → List ℤ → List ℚ
meaning d ns = map (λ n. fraction n (unsigned_abs d)) ns

-- ---- rows of a dictionary: a variable as a combination of others
-- x + a * y for each pair of numbers
abbrev pub plus_multiple : ℚ → List ℚ → List ℚ → List ℚ
plus_multiple a [] ys = []
plus_multiple a (x ∷ xs) [] = x ∷ xs
plus_multiple a (x ∷ xs) (y ∷ ys) = (x +ℚ a *ℚ y) ∷ plus_multiple a xs ys

-- the row xs, with the row ys put in for the variable at place k
abbrev pub put_in : ℕ → List ℚ → List ℚ → List ℚ
put_in k ys xs = plus_multiple (get_or xs k zero_ℚ) (set xs k zero_ℚ) ys

-- -x / a for each number
abbrev pub minus_quotients : ℚ → List ℚ → List ℚ
minus_quotients a xs = map (λ x. neg_ℚ x /ℚ a) xs

-- the row of a variable, solved for the variable at place k: the two exchange their places
abbrev pub solved_for : ℕ → List ℚ → List ℚ
solved_for k xs = minus_quotients (get_or xs k zero_ℚ) (set xs k (whole_ℚ (negsuc 0)))

-- minus the number o of one row over the number a of another, with these denominators
abbrev pub minus_ratio : ℤ → ℤ → ℤ → ℤ → ℚ
minus_ratio d e o a = neg_ℚ (fraction o (unsigned_abs e)) /ℚ fraction a (unsigned_abs d)

-- ---- the whole numbers
-- x + (f / c) * (y / d) as a numerator over c * d, where x has the denominator c
abbrev pub combined : ℤ → ℤ → ℤ → ℤ → ℤ
combined d f x y = x *ℤ d +ℤ f *ℤ y

-- at a place of a row and of the pivot's row
abbrev pub combined_at : ℤ → ℤ → List ℤ → List ℤ → ℕ → ℤ
combined_at d f xs ys q = combined d f (get_or xs q (pos 0)) (get_or ys q (pos 0))
