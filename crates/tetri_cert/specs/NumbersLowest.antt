-- The test of lowest terms.
use Rattle.std.proofs.Common.{◌≡◌, refl, arith}
use Rattle.std.specs.Prelude.{◌==◌, ◌&&◌, ◌<ℤ◌, Bool, true, false, int_lt, unsigned_abs}
use Rattle.std.proofs.lemmas.Bool.{false≢true, eqb-true, ltb-true}
use Rattle.std.proofs.lemmas.Int.{ints}
use lib.IntN.{ℤ, pos}
use Rattle.tetri_algebra.specs.Gcd.{gcd_of}
use Rattle.tetri_num.specs.Lowest.{IsLowest}
use Rattle.tetri_algebra.specs.Range.{is_within}

-- whether a numerator and a denominator are in lowest terms and in range, the denominator above 0
abbrev pub is_lowest : ℤ → ℤ → Bool
is_lowest num den = int_lt (pos 0) den && is_within num && is_within den && (gcd_of (unsigned_abs num) (unsigned_abs den) == 1)

all_four : (a b c d : Bool) → (a && b && c && d) ≡ true → (a ≡ true) × (b ≡ true) × (c ≡ true) × (d ≡ true)
all_four true true true d e = (refl, refl, refl, e)
all_four true true false d e = absurd (false≢true e)
all_four true false c d e = absurd (false≢true e)
all_four false b c d e = absurd (false≢true e)

above_zero : (den : ℤ) → int_lt (pos 0) den ≡ true → pos 0 <ℤ den
above_zero den e = omega (arith, ints)

-- what passes the test is in lowest terms
pub lowest_from : (num den : ℤ) → is_lowest num den ≡ true → IsLowest num den
lowest_from num den e =
    let t = all_four (int_lt (pos 0) den) (is_within num) (is_within den) (gcd_of (unsigned_abs num) (unsigned_abs den) == 1) e in
    record { positive = above_zero den t.0; num_within = ltb-true _ _ t.1; den_within = ltb-true _ _ t.2; lowest = eqb-true _ _ t.3 }
