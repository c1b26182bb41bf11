-- Fractions whose parts are in lowest terms.
use Rattle.std.proofs.Common.{◌≡◌, refl, sym, ap, ◌∙◌, arith, Bool, true, false, Some, None}
use Rattle.std.specs.Prelude.{◌<ℤ◌, ◌≤ℤ◌, unsigned_abs}
use Rattle.std.proofs.lemmas.Int.{ints}
use lib.IntN.{ℤ, pos}
use Rattle.tetri_algebra.specs.Integers.{abs_positive, abs_of_positive}
use Rattle.tetri_algebra.specs.Rational.{ℚ, fraction, fraction_parts}
use Rattle.tetri_num.specs.Frac.{value}
use Rattle.tetri_num.specs.Lowest.{IsLowest}
use Rattle.tetri_num.specs.declared.fractions.Frac.{Frac}
use Rattle.tetri_num.proofs.FractionLaws.{num-value, den-value}
use Rattle.tetri_cert.specs.NumbersLowest.{is_lowest, lowest_from}
use Rattle.tetri_cert.specs.Numbers.{frac_by_test, frac_of}
use Rattle.tetri_cert.proofs.NumbersBack.{frac_back}

-- the parts of a fraction give that fraction
pub frac_of-parts : (x : Frac) (num den : ℤ) → x.num ≡ num → x.den ≡ den → Some x ≡ frac_of num den
frac_of-parts x num den e f = sym (frac_back x) ∙ ap (λ n. frac_of n x.den) e ∙ ap (λ d. frac_of num d) f

-- parts that are not in lowest terms give none
not_lowest : (num den : ℤ) → (IsLowest num den → ⊥) → None ≡ frac_of num den
unfolding frac_of
not_lowest num den h = by_test (is_lowest num den) refl
  where
    by_test : (t : Bool) (e : is_lowest num den ≡ t) → None ≡ frac_by_test num den t e
    by_test true e = absurd (h (lowest_from num den e))
    by_test false e = refl

pub not_above_zero : (num den : ℤ) → den ≤ℤ pos 0 → None ≡ frac_of num den
not_above_zero num den h = not_lowest num den (λ l. let p : pos 0 <ℤ den = l.positive in omega (arith, ints))

-- a fraction is not its parts reduced where it has other parts
pub not_reduced : (x : Frac) (num den n d : ℤ) → value x ≡ fraction n (unsigned_abs d) → n ≡ num → d ≡ den → (x.num ≡ num → x.den ≡ den → ⊥) → None ≡ frac_of num den
not_reduced x num den n d v e f h = not_lowest num den (λ l.
    let r = fraction_parts num (unsigned_abs den) (abs_positive den l.positive) l.lowest in
    let w : value x ≡ fraction num (unsigned_abs den) = v ∙ ap (λ a. fraction a (unsigned_abs d)) e ∙ ap (λ b. fraction num (unsigned_abs b)) f in
    h (sym (num-value x) ∙ ap (λ (p : ℚ). p.num) w ∙ r.0) (sym (den-value x) ∙ ap (λ (p : ℚ). pos p.den) w ∙ ap pos r.1 ∙ abs_of_positive den l.positive))
