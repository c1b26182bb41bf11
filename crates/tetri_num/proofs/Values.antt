-- The rational numbers that the operations on fractions form.
use Rattle.std.proofs.Common.{◌≡◌, ℕ, ◌<◌, refl, sym, ap, ◌∙◌, subst, arith, lit<, Bool, true, false, [], ◌∷◌}
use Rattle.std.specs.Prelude.{unsigned_abs, ◌<ℤ◌, ◌≤ℤ◌, cond}
use Rattle.std.proofs.lemmas.Int.{ints, by_lt_z}
use lib.IntN.{ℤ, pos, ◌+ℤ◌, ◌-ℤ◌, ◌*ℤ◌, neg_ℤ}
use lib.Signed.{lt_z}
use Rattle.tetri_algebra.specs.Gcd.{gcd_of}
use Rattle.tetri_algebra.specs.Coprime.{gcd_of-one, gcd_of_comm}
use Rattle.tetri_algebra.specs.Integers.{abs_of_positive, abs_positive, abs-neg_ℤ}
use Rattle.tetri_algebra.specs.RingSolver.{var, minus, ring, ◌⊕◌, ◌⊗◌}
use Rattle.tetri_algebra.specs.IntegerRing.{ℤ_ring}
use Rattle.tetri_algebra.specs.Rational.{ℚ, whole_ℚ, fraction, fraction_is, same_parts}
use Rattle.tetri_algebra.specs.RationalRing.{◌+ℚ◌, ◌*ℚ◌, neg_ℚ, sum_of_parts, product_of_parts, positive_product, num-neg_ℚ, den-neg_ℚ, num-whole_ℚ, den-whole_ℚ}
use Rattle.tetri_algebra.specs.RationalReciprocal.{recip_ℚ, recip_positive, recip_negative}
use Rattle.tetri_num.specs.declared.fractions.Frac.{Frac}
use Rattle.tetri_algebra.specs.Range.{IsWithin, AreWithin}
use Rattle.tetri_num.specs.Lowest.{IsLowest}
use Rattle.tetri_num.specs.Forms.{sum_num, sum_den, sum_total, product_num, product_den, sum_numbers, product_numbers, recip_num, recip_den}
use Rattle.tetri_num.specs.Frac.{value}
use Rattle.tetri_num.proofs.Common.{quotient_within}
use Rattle.tetri_num.proofs.SumForms.{sum_value, sum_coprime, sum_den_positive}
use Rattle.tetri_num.proofs.ProductForms.{product_value, product_coprime, product_den_positive}

-- ---- the value of a fraction
pub num-value : (x : Frac) → (value x).num ≡ x.num
unfolding value
num-value x = refl

pub den-value : (x : Frac) → pos (value x).den ≡ x.den
unfolding value
den-value x = abs_of_positive x.den x.lowest.positive

pub value_is : (x : Frac) (p : ℚ) → x.num ≡ p.num → x.den ≡ pos p.den → value x ≡ p
value_is x p e f = same_parts (value x) p (num-value x ∙ e) (ap unsigned_abs (den-value x ∙ f))

pub at_four : {X : Type 0} (f : ℤ → ℤ → ℤ → ℤ → X) (a b c d a' b' c' d' : ℤ) → a' ≡ a → b' ≡ b → c' ≡ c → d' ≡ d → f a' b' c' d' ≡ f a b c d
at_four f a b c d a' b' c' d' e g h k = cc

-- a function of the parts of two values is that of the fractions' own
pub at_values : {X : Type 0} (f : ℤ → ℤ → ℤ → ℤ → X) (x y : Frac) → f (value x).num (pos (value x).den) (value y).num (pos (value y).den) ≡ f x.num x.den y.num y.den
at_values f x y = at_four f _ _ _ _ _ _ _ _ (num-value x) (den-value x) (num-value y) (den-value y)

pub value-new : (x : Frac) (n d : ℤ) → pos 0 <ℤ d → x.num *ℤ d ≡ n *ℤ x.den → value x ≡ fraction n (unsigned_abs d)
value-new x n d h e =
    sym (fraction_is n (unsigned_abs d) (value x) (abs_positive d h)
    (ap (λ z. z *ℤ pos (unsigned_abs d)) (num-value x) ∙ ap (λ z. x.num *ℤ z) (abs_of_positive d h) ∙ e ∙ ap (λ z. n *ℤ z) (sym (den-value x))))

pub value-whole : (x : Frac) (n : ℤ) → x.num ≡ n → x.den ≡ pos 1 → value x ≡ whole_ℚ n
value-whole x n e f = value_is x (whole_ℚ n) (e ∙ sym (num-whole_ℚ n)) (f ∙ ap pos (sym (den-whole_ℚ n)))

-- ---- the numerator and the denominator of a sum and of a product
sum_ratio : (p q : ℚ) → ℚ
sum_ratio p q =
    let a = p.num in let b = pos p.den in let c = q.num in let d = pos q.den in
    let h : pos 0 <ℤ b = above p.den p.positive in
    let k : pos 0 <ℤ d = above q.den q.positive in
    record {
      num = sum_num a b c d;
      den = unsigned_abs (sum_den a b c d);
      positive = abs_positive (sum_den a b c d) (sum_den_positive a b c d h k);
      lowest = sum_coprime a b c d h k p.lowest q.lowest;
    }
  where
    above : (n : ℕ) → 0 < n → pos 0 <ℤ pos n
    above n h = omega (arith, ints)

product_ratio : (p q : ℚ) → ℚ
product_ratio p q =
    let a = p.num in let b = pos p.den in let c = q.num in let d = pos q.den in
    let h : pos 0 <ℤ b = above p.den p.positive in
    let k : pos 0 <ℤ d = above q.den q.positive in
    record {
      num = product_num a b c d;
      den = unsigned_abs (product_den a b c d);
      positive = abs_positive (product_den a b c d) (product_den_positive a b c d h k);
      lowest = product_coprime a b c d h k p.lowest q.lowest;
    }
  where
    above : (n : ℕ) → 0 < n → pos 0 <ℤ pos n
    above n h = omega (arith, ints)

above_pos : (n : ℕ) → 0 < n → pos 0 <ℤ pos n
above_pos n h = omega (arith, ints)

pub sum_parts : (p q : ℚ) → ((p +ℚ q).num ≡ sum_num p.num (pos p.den) q.num (pos q.den)) × (pos (p +ℚ q).den ≡ sum_den p.num (pos p.den) q.num (pos q.den))
unfolding sum_ratio
sum_parts p q =
    let a = p.num in let b = pos p.den in let c = q.num in let d = pos q.den in
    let m = abs_of_positive (sum_den a b c d) (sum_den_positive a b c d (above_pos p.den p.positive) (above_pos q.den q.positive)) in
    let e : p +ℚ q ≡ sum_ratio p q =
    sum_of_parts p q ∙ fraction_is _ _ (sum_ratio p q) (positive_product _ _ p.positive q.positive) (sum_value a b c d ∙ ap (λ z. (a *ℤ d +ℤ c *ℤ b) *ℤ z) (sym m)) in
    (ap (λ (x : ℚ). x.num) e, ap (λ (x : ℚ). pos x.den) e ∙ m)

pub product_parts : (p q : ℚ) → ((p *ℚ q).num ≡ product_num p.num (pos p.den) q.num (pos q.den)) × (pos (p *ℚ q).den ≡ product_den p.num (pos p.den) q.num (pos q.den))
unfolding product_ratio
product_parts p q =
    let a = p.num in let b = pos p.den in let c = q.num in let d = pos q.den in
    let m = abs_of_positive (product_den a b c d) (product_den_positive a b c d (above_pos p.den p.positive) (above_pos q.den q.positive)) in
    let e : p *ℚ q ≡ product_ratio p q =
    product_of_parts p q ∙ fraction_is _ _ (product_ratio p q) (positive_product _ _ p.positive q.positive) (product_value a b c d ∙ ap (λ z. (a *ℤ c) *ℤ z) (sym m)) in
    (ap (λ (x : ℚ). x.num) e, ap (λ (x : ℚ). pos x.den) e ∙ m)

-- ---- the fraction of a sum and of a product
pub sum_lowest : (n m a b c d : ℤ) → n ≡ sum_num a b c d → m ≡ sum_den a b c d → IsLowest a b → IsLowest c d → AreWithin (sum_numbers a b c d) → IsLowest n m
sum_lowest n m a b c d e f l k w =
    rw (e, f) (record {
      positive = sum_den_positive a b c d l.positive k.positive;
      num_within = quotient_within (sum_total a b c d) _ w.1.1.0;
      den_within = w.1.1.1.0;
      lowest = sum_coprime a b c d l.positive k.positive l.lowest k.lowest;
    })

pub product_lowest : (n m a b c d : ℤ) → n ≡ product_num a b c d → m ≡ product_den a b c d → IsLowest a b → IsLowest c d → AreWithin (product_numbers a b c d) → IsLowest n m
product_lowest n m a b c d e f l k w =
    rw (e, f) (record {
      positive = product_den_positive a b c d l.positive k.positive;
      num_within = w.0;
      den_within = w.1.0;
      lowest = product_coprime a b c d l.positive k.positive l.lowest k.lowest;
    })

pub value-sum : (r x y : Frac) → r.num ≡ sum_num x.num x.den y.num y.den → r.den ≡ sum_den x.num x.den y.num y.den → value r ≡ value x +ℚ value y
value-sum r x y e f =
    let s = sum_parts (value x) (value y) in
    value_is r _ (e ∙ sym (at_values sum_num x y) ∙ sym s.0) (f ∙ sym (at_values sum_den x y) ∙ sym s.1)

pub value-product : (r x y : Frac) → r.num ≡ product_num x.num x.den y.num y.den → r.den ≡ product_den x.num x.den y.num y.den → value r ≡ value x *ℚ value y
value-product r x y e f =
    let s = product_parts (value x) (value y) in
    value_is r _ (e ∙ sym (at_values product_num x y) ∙ sym s.0) (f ∙ sym (at_values product_den x y) ∙ sym s.1)

pub cross_sum : (n m a b c d : ℤ) → n ≡ sum_num a b c d → m ≡ sum_den a b c d → n *ℤ (b *ℤ d) ≡ (a *ℤ d +ℤ c *ℤ b) *ℤ m
cross_sum n m a b c d e f = rw (e, f) (sum_value a b c d)

pub cross_product : (n m a b c d : ℤ) → n ≡ product_num a b c d → m ≡ product_den a b c d → n *ℤ (b *ℤ d) ≡ (a *ℤ c) *ℤ m
cross_product n m a b c d e f = rw (e, f) (product_value a b c d)

-- ---- the negated fraction and the reciprocal
pub value-negated : (r x : Frac) → r.num ≡ neg_ℤ x.num → r.den ≡ x.den → value r ≡ neg_ℚ (value x)
value-negated r x e f =
    value_is r _ (e ∙ ap neg_ℤ (sym (num-value x)) ∙ sym (num-neg_ℚ (value x))) (f ∙ sym (den-value x) ∙ ap pos (sym (den-neg_ℚ (value x))))

pub within_negated : (a : ℤ) → IsWithin a → IsWithin (neg_ℤ a)
within_negated a h = omega (arith, abs-neg_ℤ a)

pub negated_lowest : (n m a b : ℤ) → n ≡ neg_ℤ a → m ≡ b → IsLowest a b → IsLowest n m
negated_lowest n m a b e f l =
    rw (e, f) (record {
      positive = l.positive;
      num_within = within_negated a l.num_within;
      den_within = l.den_within;
      lowest = ap (λ k. gcd_of k (unsigned_abs b)) (abs-neg_ℤ a) ∙ l.lowest;
    })

recip_above : (c d : ℤ) → pos 0 <ℤ c → (recip_num c d ≡ d) × (recip_den c ≡ c)
recip_above c d h = (by_sign (lt_z (pos 0) c) (grind (arith, ints)), abs_of_positive c h)
  where
    by_sign : (t : Bool) → t ≡ true → cond t d (neg_ℤ d) ≡ d
    by_sign t e = ap (λ u. cond u d (neg_ℤ d)) e

recip_below : (c d : ℤ) → c <ℤ pos 0 → (recip_num c d ≡ neg_ℤ d) × (recip_den c ≡ neg_ℤ c)
recip_below c d h = (by_sign (lt_z (pos 0) c) (grind (arith, ints)), omega (arith, ints))
  where
    by_sign : (t : Bool) → t ≡ false → cond t d (neg_ℤ d) ≡ neg_ℤ d
    by_sign t e = ap (λ u. cond u d (neg_ℤ d)) e

nonzero_sign : (P : Type 0) (c : ℤ) → (c ≡ pos 0 → ⊥) → (pos 0 <ℤ c → P) → (c <ℤ pos 0 → P) → P
nonzero_sign P c n f g = by_lt_z (pos 0) c f (λ h. by_lt_z c (pos 0) g (λ k. absurd (n (omega (arith, ints)))))

pub value-reciprocal : (r x : Frac) → (x.num ≡ pos 0 → ⊥) → r.num ≡ recip_num x.num x.den → r.den ≡ recip_den x.num → value r ≡ recip_ℚ (value x)
value-reciprocal r x n e f =
    nonzero_sign _ x.num n
    (λ h.
    let s = recip_positive (value x) (subst (λ z. pos 0 <ℤ z) (sym (num-value x)) h) in
    let t = recip_above x.num x.den h in
    value_is r _ (e ∙ t.0 ∙ sym (den-value x) ∙ sym s.0) (f ∙ t.1 ∙ sym (num-value x) ∙ sym s.1))
    (λ h.
    let s = recip_negative (value x) (subst (λ z. z <ℤ pos 0) (sym (num-value x)) h) in
    let t = recip_below x.num x.den h in
    value_is r _ (e ∙ t.0 ∙ ap neg_ℤ (sym (den-value x)) ∙ sym s.0) (f ∙ t.1 ∙ ap neg_ℤ (sym (num-value x)) ∙ sym s.1))

-- the numbers of a reciprocal are in lowest terms
pub recip_above_lowest : (n m c d : ℤ) → pos 0 <ℤ c → n ≡ d → m ≡ c → IsLowest c d → IsLowest n m
recip_above_lowest n m c d h e f l =
    rw (e, f) (record { positive = h; num_within = l.den_within; den_within = l.num_within; lowest = gcd_of_comm _ _ ∙ l.lowest })

pub recip_below_lowest : (n m c d : ℤ) → (c ≡ pos 0 → ⊥) → c ≤ℤ pos 0 → n ≡ neg_ℤ d → m ≡ neg_ℤ c → IsLowest c d → IsLowest n m
recip_below_lowest n m c d z h e f l =
    rw (e, f) (record {
      positive = turned c (below c z h);
      num_within = within_negated d l.den_within;
      den_within = within_negated c l.num_within;
      lowest = ap (λ k. gcd_of k (unsigned_abs (neg_ℤ c))) (abs-neg_ℤ d) ∙ ap (λ k. gcd_of (unsigned_abs d) k) (abs-neg_ℤ c) ∙ gcd_of_comm _ _ ∙ l.lowest;
    })
  where
    below : (c : ℤ) → (c ≡ pos 0 → ⊥) → c ≤ℤ pos 0 → c <ℤ pos 0
    below c z h = by_lt_z c (pos 0) (λ k. k) (λ k. absurd (z (omega (arith, ints))))

    turned : (c : ℤ) → c <ℤ pos 0 → pos 0 <ℤ neg_ℤ c
    turned c h = omega (arith, ints)

-- ---- differences and quotients, formed as sums and products
pub cross_difference : (n m a b c d c' d' : ℤ) → c' ≡ neg_ℤ c → d' ≡ d → n ≡ sum_num a b c' d' → m ≡ sum_den a b c' d' → n *ℤ (b *ℤ d) ≡ (a *ℤ d -ℤ c *ℤ b) *ℤ m
cross_difference n m a b c d c' d' g h e f =
    ap (λ z. n *ℤ (b *ℤ z)) (sym h) ∙ cross_sum n m a b c' d' e f
    ∙ ap (λ z. (a *ℤ z +ℤ c' *ℤ b) *ℤ m) h ∙ ap (λ z. (a *ℤ d +ℤ z *ℤ b) *ℤ m) g
    ∙ ring ℤ_ring (a ∷ d ∷ c ∷ b ∷ m ∷ []) ((var 0 ⊗ var 1 ⊕ minus (var 2) ⊗ var 3) ⊗ var 4) ((var 0 ⊗ var 1 ⊕ minus (var 2 ⊗ var 3)) ⊗ var 4) refl

pub cross_quotient : (n m a b c d c' d' : ℤ) → (c ≡ pos 0 → ⊥) → c' ≡ recip_num c d → d' ≡ recip_den c → n ≡ product_num a b c' d' → m ≡ product_den a b c' d' → n *ℤ (b *ℤ c) ≡ (a *ℤ d) *ℤ m
cross_quotient n m a b c d c' d' z g h e f =
    nonzero_sign _ c z
    (λ k.
    let t = recip_above c d k in
    ap (λ x. n *ℤ (b *ℤ x)) (sym (h ∙ t.1)) ∙ cross_product n m a b c' d' e f ∙ ap (λ x. (a *ℤ x) *ℤ m) (g ∙ t.0))
    (λ k.
    let t = recip_below c d k in
    ring ℤ_ring (n ∷ b ∷ c ∷ []) (var 0 ⊗ (var 1 ⊗ var 2)) (minus (var 0 ⊗ (var 1 ⊗ minus (var 2)))) refl
    ∙ ap (λ x. neg_ℤ (n *ℤ (b *ℤ x))) (sym (h ∙ t.1)) ∙ ap neg_ℤ (cross_product n m a b c' d' e f) ∙ ap (λ x. neg_ℤ ((a *ℤ x) *ℤ m)) (g ∙ t.0)
    ∙ ring ℤ_ring (a ∷ d ∷ m ∷ []) (minus ((var 0 ⊗ minus (var 1)) ⊗ var 2)) ((var 0 ⊗ var 1) ⊗ var 2) refl)

-- ---- whole numbers
pub whole_lowest : (n m k : ℤ) → n ≡ k → m ≡ pos 1 → IsWithin k → IsLowest n m
whole_lowest n m k e f h =
    rw (e, f) (record { positive = omega (arith, ints); num_within = h; den_within = lit< tt; lowest = gcd_of-one (unsigned_abs k) })
