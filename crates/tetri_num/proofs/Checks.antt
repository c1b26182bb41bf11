-- The tests of the range, and what a checked operation answers.
use Rattle.std.proofs.Common.{◌≡◌, ℕ, ◌^◌, ◌<◌, refl, sym, ap, ◌∙◌, arith, List, [], ◌∷◌, Bool, true, false, cond, ltb, ◌&&◌, Some, None}
use Rattle.std.specs.List.{list_all}
use Rattle.std.specs.Prelude.{unsigned_abs}
use Rattle.std.proofs.lemmas.Bool.{false≢true}
use Rattle.std.proofs.lemmas.Bool.Decides.{nat_tests}
use borrow.Author.Tests.{ltb-true}
use lib.IntN.{ℤ, pos}
use Rattle.tetri_algebra.specs.Rational.{ℚ}
use Rattle.tetri_algebra.specs.RationalRing.{◌+ℚ◌, ◌*ℚ◌}
use Rattle.tetri_num.specs.declared.fractions.Frac.{Frac}
use Rattle.tetri_algebra.specs.Range.{IsWithin, AreWithin, is_within}
use Rattle.tetri_num.specs.Forms.{sum_numbers, product_numbers, sum_total}
use Rattle.tetri_num.specs.Frac.{value}
use Rattle.tetri_num.specs.Checked.{IsRepresentable, value_within, checked_sum, checked_product}
use Rattle.tetri_num.proofs.Common.{quotient_within, within_along}
use Rattle.tetri_num.proofs.Values.{at_values, sum_parts, product_parts}

within_test : (z : ℤ) → IsWithin z → is_within z ≡ true
within_test z h = test_lt (unsigned_abs z) (2 ^ 127) h
  where
    test_lt : (a b : ℕ) → a < b → ltb a b ≡ true
    test_lt a b h = grind (arith, nat_tests)

all_within : (zs : List ℤ) → AreWithin zs → list_all is_within zs ≡ true
all_within [] h = refl
all_within (z ∷ zs) h = ap (λ t. t && list_all is_within zs) (within_test z h.0) ∙ all_within zs h.1

both : (a b : Bool) → (a && b) ≡ true → (a ≡ true) × (b ≡ true)
both true b e = (refl, e)
both false b e = absurd (false≢true e)

within_all : (zs : List ℤ) → list_all is_within zs ≡ true → AreWithin zs
within_all [] e = tt
within_all (z ∷ zs) e = let t = both (is_within z) (list_all is_within zs) e in (ltb-true _ _ t.0, within_all zs t.1)

not_true : (t : Bool) → (t ≡ true → ⊥) → t ≡ false
not_true true h = absurd (h refl)
not_true false h = refl

pub value_within_some : (zs : List ℤ) (p : ℚ) → AreWithin zs → value_within zs p ≡ Some p
value_within_some zs p h = ap (λ t. cond t (Some p) None) (all_within zs h)

pub value_within_none : (zs : List ℤ) (p : ℚ) → (AreWithin zs → ⊥) → value_within zs p ≡ None
value_within_none zs p h = ap (λ t. cond t (Some p) None) (not_true _ (λ e. h (within_all zs e)))

value_within_is : (zs : List ℤ) (p r : ℚ) → value_within zs p ≡ Some r → AreWithin zs × (p ≡ r)
value_within_is zs p r e = by_test (list_all is_within zs) refl e
  where
    by_test : (t : Bool) → list_all is_within zs ≡ t → cond t (Some p) None ≡ Some r → AreWithin zs × (p ≡ r)
    by_test true h f = (within_all zs h, cc)
    by_test false h f = cc

-- ---- a checked sum and product of fractions' values
pub checked_sum_at : (x y : Frac) → checked_sum (value x) (value y) ≡ value_within (sum_numbers x.num x.den y.num y.den) (value x +ℚ value y)
unfolding checked_sum
checked_sum_at x y = ap (λ zs. value_within zs (value x +ℚ value y)) (at_values sum_numbers x y)

pub checked_product_at : (x y : Frac) → checked_product (value x) (value y) ≡ value_within (product_numbers x.num x.den y.num y.den) (value x *ℚ value y)
unfolding checked_product
checked_product_at x y = ap (λ zs. value_within zs (value x *ℚ value y)) (at_values product_numbers x y)

pub checked_sum_some : (r : ℚ) (x y : Frac) → r ≡ value x +ℚ value y → AreWithin (sum_numbers x.num x.den y.num y.den) → checked_sum (value x) (value y) ≡ Some r
checked_sum_some r x y e h = checked_sum_at x y ∙ value_within_some (sum_numbers x.num x.den y.num y.den) (value x +ℚ value y) h ∙ ap Some (sym e)

pub checked_sum_none : (x y : Frac) → (AreWithin (sum_numbers x.num x.den y.num y.den) → ⊥) → checked_sum (value x) (value y) ≡ None
checked_sum_none x y h = checked_sum_at x y ∙ value_within_none (sum_numbers x.num x.den y.num y.den) (value x +ℚ value y) h

pub checked_product_some : (r : ℚ) (x y : Frac) → r ≡ value x *ℚ value y → AreWithin (product_numbers x.num x.den y.num y.den) → checked_product (value x) (value y) ≡ Some r
checked_product_some r x y e h = checked_product_at x y ∙ value_within_some (product_numbers x.num x.den y.num y.den) (value x *ℚ value y) h ∙ ap Some (sym e)

pub checked_product_none : (x y : Frac) → (AreWithin (product_numbers x.num x.den y.num y.den) → ⊥) → checked_product (value x) (value y) ≡ None
checked_product_none x y h = checked_product_at x y ∙ value_within_none (product_numbers x.num x.den y.num y.den) (value x *ℚ value y) h

-- ---- what a checked operation answers is representable
representable_along : (p r : ℚ) → p ≡ r → IsWithin p.num → IsWithin (pos p.den) → IsRepresentable r
representable_along p r e h k = record { num = within_along r.num p.num (ap (λ (x : ℚ). x.num) (sym e)) h; den = within_along (pos r.den) (pos p.den) (ap (λ (x : ℚ). pos x.den) (sym e)) k }

pub checked_sum_representable : (p q r : ℚ) → checked_sum p q ≡ Some r → IsRepresentable r
unfolding checked_sum
checked_sum_representable p q r e =
    let w = value_within_is (sum_numbers p.num (pos p.den) q.num (pos q.den)) (p +ℚ q) r e in
    let s = sum_parts p q in
    representable_along (p +ℚ q) r w.1
    (within_along _ _ s.0 (quotient_within (sum_total p.num (pos p.den) q.num (pos q.den)) _ w.0.1.1.0))
    (within_along _ _ s.1 w.0.1.1.1.0)

pub checked_product_representable : (p q r : ℚ) → checked_product p q ≡ Some r → IsRepresentable r
unfolding checked_product
checked_product_representable p q r e =
    let w = value_within_is (product_numbers p.num (pos p.den) q.num (pos q.den)) (p *ℚ q) r e in
    let s = product_parts p q in
    representable_along (p *ℚ q) r w.1 (within_along _ _ s.0 w.0.0) (within_along _ _ s.1 w.0.1.0)
