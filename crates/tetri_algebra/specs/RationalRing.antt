-- The rational numbers as a commutative ring, and their reciprocals.
use Rattle.std.proofs.Common.{◌≡◌, ℕ, ◌*◌, ◌<◌, refl, sym, ap, ◌∙◌, arith, [], ◌∷◌}
use Prim.Native.Nat.{zero, suc}
use lib.IntN.{ℤ, pos, ◌+ℤ◌, ◌*ℤ◌, neg_ℤ}
use Rattle.tetri_algebra.specs.Gcd.{gcd_of}
use Rattle.tetri_algebra.specs.Integers.{abs-neg_ℤ}
use Rattle.tetri_algebra.specs.RingSolver.{var, num, minus, ring, ◌⊕◌, ◌⊗◌}
use Rattle.tetri_algebra.specs.CommutativeRing.{CommutativeRing}
use Rattle.tetri_algebra.specs.IntegerRing.{ℤ_ring}
use Rattle.tetri_algebra.specs.Rational.{ℚ, whole_ℚ, fraction, fraction-cross, fraction_is, fraction_self, same_fraction, fraction-one}

-- ---- the operations
infixl 6 ◌+ℚ◌
unfoldable pub ◌+ℚ◌ : ℚ → ℚ → ℚ
p +ℚ q = fraction (p.num *ℤ pos q.den +ℤ q.num *ℤ pos p.den) (p.den * q.den)

infixl 7 ◌*ℚ◌
unfoldable pub ◌*ℚ◌ : ℚ → ℚ → ℚ
p *ℚ q = fraction (p.num *ℤ q.num) (p.den * q.den)

unfoldable pub neg_ℚ : ℚ → ℚ
neg_ℚ p = record { num = neg_ℤ p.num; den = p.den; positive = p.positive; lowest = ap (λ n. gcd_of n p.den) (abs-neg_ℤ p.num) ∙ p.lowest }

infixl 6 ◌-ℚ◌
abbrev pub ◌-ℚ◌ : ℚ → ℚ → ℚ
p -ℚ q = p +ℚ neg_ℚ q

abbrev pub zero_ℚ : ℚ
zero_ℚ = whole_ℚ (pos 0)

abbrev pub one_ℚ : ℚ
one_ℚ = whole_ℚ (pos 1)

-- ---- numerators and denominators
pub positive_product : (a b : ℕ) → 0 < a → 0 < b → 0 < a * b
positive_product (suc a) (suc b) h k = omega arith
positive_product zero b h k = absurd (omega arith)
positive_product a zero h k = absurd (omega arith)

pub num-whole_ℚ : (n : ℤ) → (whole_ℚ n).num ≡ n
unfolding whole_ℚ
num-whole_ℚ n = refl

pub den-whole_ℚ : (n : ℤ) → (whole_ℚ n).den ≡ 1
unfolding whole_ℚ
den-whole_ℚ n = refl

pub num-neg_ℚ : (p : ℚ) → (neg_ℚ p).num ≡ neg_ℤ p.num
unfolding neg_ℚ
num-neg_ℚ p = refl

pub den-neg_ℚ : (p : ℚ) → (neg_ℚ p).den ≡ p.den
unfolding neg_ℚ
den-neg_ℚ p = refl

pub neg_fraction : (p : ℚ) → neg_ℚ p ≡ fraction (neg_ℤ p.num) p.den
unfolding neg_ℚ
neg_fraction p = sym (fraction_self (neg_ℚ p))

-- the sum and the product of fractions
pub add-fraction : (n : ℤ) (d : ℕ) (m : ℤ) (e : ℕ) → 0 < d → 0 < e → fraction n d +ℚ fraction m e ≡ fraction (n *ℤ pos e +ℤ m *ℤ pos d) (d * e)
unfolding ◌+ℚ◌
add-fraction n d m e h k =
    let p = fraction n d in
    let q = fraction m e in
    let c = fraction-cross n d h in
    let f = fraction-cross m e k in
    let x = var 0 in let y = var 1 in let z = var 2 in let w = var 3 in let u = var 4 in let v = var 5 in
    same_fraction _ _ _ _ (positive_product _ _ p.positive q.positive) (positive_product _ _ h k) (
    ring ℤ_ring (p.num ∷ pos q.den ∷ q.num ∷ pos p.den ∷ pos d ∷ pos e ∷ [])
    ((x ⊗ y ⊕ z ⊗ w) ⊗ (u ⊗ v)) ((x ⊗ u) ⊗ (y ⊗ v) ⊕ (z ⊗ v) ⊗ (w ⊗ u)) refl
    ∙ ap (λ a. a *ℤ (pos q.den *ℤ pos e) +ℤ (q.num *ℤ pos e) *ℤ (pos p.den *ℤ pos d)) c
    ∙ ap (λ a. (n *ℤ pos p.den) *ℤ (pos q.den *ℤ pos e) +ℤ a *ℤ (pos p.den *ℤ pos d)) f
    ∙ ring ℤ_ring (n ∷ pos q.den ∷ m ∷ pos p.den ∷ pos d ∷ pos e ∷ [])
    ((x ⊗ w) ⊗ (y ⊗ v) ⊕ (z ⊗ y) ⊗ (w ⊗ u)) ((x ⊗ v ⊕ z ⊗ u) ⊗ (w ⊗ y)) refl)

pub mul-fraction : (n : ℤ) (d : ℕ) (m : ℤ) (e : ℕ) → 0 < d → 0 < e → fraction n d *ℚ fraction m e ≡ fraction (n *ℤ m) (d * e)
unfolding ◌*ℚ◌
mul-fraction n d m e h k =
    let p = fraction n d in
    let q = fraction m e in
    let c = fraction-cross n d h in
    let f = fraction-cross m e k in
    let x = var 0 in let y = var 1 in let z = var 2 in let w = var 3 in
    same_fraction _ _ _ _ (positive_product _ _ p.positive q.positive) (positive_product _ _ h k) (
    ring ℤ_ring (p.num ∷ q.num ∷ pos d ∷ pos e ∷ []) ((x ⊗ y) ⊗ (z ⊗ w)) ((x ⊗ z) ⊗ (y ⊗ w)) refl
    ∙ ap (λ a. a *ℤ (q.num *ℤ pos e)) c
    ∙ ap (λ a. (n *ℤ pos p.den) *ℤ a) f
    ∙ ring ℤ_ring (n ∷ pos p.den ∷ m ∷ pos q.den ∷ []) ((x ⊗ y) ⊗ (z ⊗ w)) ((x ⊗ z) ⊗ (y ⊗ w)) refl)

-- the sum and the product, with one fraction written as such
pub add_fraction_right : (p : ℚ) (m : ℤ) (e : ℕ) → 0 < e → p +ℚ fraction m e ≡ fraction (p.num *ℤ pos e +ℤ m *ℤ pos p.den) (p.den * e)
add_fraction_right p m e h = ap (λ x. x +ℚ fraction m e) (sym (fraction_self p)) ∙ add-fraction p.num p.den m e p.positive h

pub add_fraction_left : (n : ℤ) (d : ℕ) (q : ℚ) → 0 < d → fraction n d +ℚ q ≡ fraction (n *ℤ pos q.den +ℤ q.num *ℤ pos d) (d * q.den)
add_fraction_left n d q h = ap (λ x. fraction n d +ℚ x) (sym (fraction_self q)) ∙ add-fraction n d q.num q.den h q.positive

pub mul_fraction_right : (p : ℚ) (m : ℤ) (e : ℕ) → 0 < e → p *ℚ fraction m e ≡ fraction (p.num *ℤ m) (p.den * e)
mul_fraction_right p m e h = ap (λ x. x *ℚ fraction m e) (sym (fraction_self p)) ∙ mul-fraction p.num p.den m e p.positive h

pub mul_fraction_left : (n : ℤ) (d : ℕ) (q : ℚ) → 0 < d → fraction n d *ℚ q ≡ fraction (n *ℤ q.num) (d * q.den)
mul_fraction_left n d q h = ap (λ x. fraction n d *ℚ x) (sym (fraction_self q)) ∙ mul-fraction n d q.num q.den h q.positive

-- ---- the laws
pub +ℚ_comm : (p q : ℚ) → p +ℚ q ≡ q +ℚ p
unfolding ◌+ℚ◌
+ℚ_comm p q =
    let a = var 0 in let b = var 1 in let c = var 2 in let d = var 3 in
    same_fraction _ _ _ _ (positive_product _ _ p.positive q.positive) (positive_product _ _ q.positive p.positive)
    (ring ℤ_ring (p.num ∷ pos p.den ∷ q.num ∷ pos q.den ∷ []) ((a ⊗ d ⊕ c ⊗ b) ⊗ (d ⊗ b)) ((c ⊗ b ⊕ a ⊗ d) ⊗ (b ⊗ d)) refl)

pub *ℚ_comm : (p q : ℚ) → p *ℚ q ≡ q *ℚ p
unfolding ◌*ℚ◌
*ℚ_comm p q =
    let a = var 0 in let b = var 1 in let c = var 2 in let d = var 3 in
    same_fraction _ _ _ _ (positive_product _ _ p.positive q.positive) (positive_product _ _ q.positive p.positive)
    (ring ℤ_ring (p.num ∷ pos p.den ∷ q.num ∷ pos q.den ∷ []) ((a ⊗ c) ⊗ (d ⊗ b)) ((c ⊗ a) ⊗ (b ⊗ d)) refl)

-- a sum and a product as one fraction
pub sum_of_parts : (p q : ℚ) → p +ℚ q ≡ fraction (p.num *ℤ pos q.den +ℤ q.num *ℤ pos p.den) (p.den * q.den)
unfolding ◌+ℚ◌
sum_of_parts p q = refl

pub product_of_parts : (p q : ℚ) → p *ℚ q ≡ fraction (p.num *ℤ q.num) (p.den * q.den)
unfolding ◌*ℚ◌
product_of_parts p q = refl

pub +ℚ_assoc : (p q r : ℚ) → (p +ℚ q) +ℚ r ≡ p +ℚ (q +ℚ r)
+ℚ_assoc p q r =
    let a = var 0 in let b = var 1 in let c = var 2 in let d = var 3 in let e = var 4 in let f = var 5 in
    let pq = positive_product _ _ p.positive q.positive in
    let qr = positive_product _ _ q.positive r.positive in
    ap (λ x. x +ℚ r) (sum_of_parts p q)
    ∙ add_fraction_left _ _ r pq
    ∙ same_fraction _ _ _ _ (positive_product _ _ pq r.positive) (positive_product _ _ p.positive qr)
    (ring ℤ_ring (p.num ∷ pos p.den ∷ q.num ∷ pos q.den ∷ r.num ∷ pos r.den ∷ [])
    (((a ⊗ d ⊕ c ⊗ b) ⊗ f ⊕ e ⊗ (b ⊗ d)) ⊗ (b ⊗ (d ⊗ f))) ((a ⊗ (d ⊗ f) ⊕ (c ⊗ f ⊕ e ⊗ d) ⊗ b) ⊗ ((b ⊗ d) ⊗ f)) refl)
    ∙ sym (add_fraction_right p _ _ qr)
    ∙ ap (λ x. p +ℚ x) (sym (sum_of_parts q r))

pub *ℚ_assoc : (p q r : ℚ) → (p *ℚ q) *ℚ r ≡ p *ℚ (q *ℚ r)
*ℚ_assoc p q r =
    let a = var 0 in let b = var 1 in let c = var 2 in let d = var 3 in let e = var 4 in let f = var 5 in
    let pq = positive_product _ _ p.positive q.positive in
    let qr = positive_product _ _ q.positive r.positive in
    ap (λ x. x *ℚ r) (product_of_parts p q)
    ∙ mul_fraction_left _ _ r pq
    ∙ same_fraction _ _ _ _ (positive_product _ _ pq r.positive) (positive_product _ _ p.positive qr)
    (ring ℤ_ring (p.num ∷ pos p.den ∷ q.num ∷ pos q.den ∷ r.num ∷ pos r.den ∷ [])
    (((a ⊗ c) ⊗ e) ⊗ (b ⊗ (d ⊗ f))) ((a ⊗ (c ⊗ e)) ⊗ ((b ⊗ d) ⊗ f)) refl)
    ∙ sym (mul_fraction_right p _ _ qr)
    ∙ ap (λ x. p *ℚ x) (sym (product_of_parts q r))

pub *ℚ-distrib_right : (p q r : ℚ) → (p +ℚ q) *ℚ r ≡ p *ℚ r +ℚ q *ℚ r
*ℚ-distrib_right p q r =
    let a = var 0 in let b = var 1 in let c = var 2 in let d = var 3 in let e = var 4 in let f = var 5 in
    let pq = positive_product _ _ p.positive q.positive in
    let pr = positive_product _ _ p.positive r.positive in
    let qr = positive_product _ _ q.positive r.positive in
    ap (λ x. x *ℚ r) (sum_of_parts p q)
    ∙ mul_fraction_left _ _ r pq
    ∙ same_fraction _ _ _ _ (positive_product _ _ pq r.positive) (positive_product _ _ pr qr)
    (ring ℤ_ring (p.num ∷ pos p.den ∷ q.num ∷ pos q.den ∷ r.num ∷ pos r.den ∷ [])
    (((a ⊗ d ⊕ c ⊗ b) ⊗ e) ⊗ ((b ⊗ f) ⊗ (d ⊗ f))) (((a ⊗ e) ⊗ (d ⊗ f) ⊕ (c ⊗ e) ⊗ (b ⊗ f)) ⊗ ((b ⊗ d) ⊗ f)) refl)
    ∙ sym (add-fraction _ _ _ _ pr qr)
    ∙ ap (λ x. x +ℚ fraction (q.num *ℤ r.num) (q.den * r.den)) (sym (product_of_parts p r))
    ∙ ap (λ x. p *ℚ r +ℚ x) (sym (product_of_parts q r))

one_above : 0 < 1
one_above = omega arith

pub zero-+ℚ : (p : ℚ) → zero_ℚ +ℚ p ≡ p
zero-+ℚ p =
    let a = var 0 in let b = var 1 in
    ap (λ x. x +ℚ p) (sym (fraction-one (pos 0)))
    ∙ add_fraction_left (pos 0) 1 p one_above
    ∙ fraction_is _ _ p (positive_product _ _ one_above p.positive)
    (ring ℤ_ring (p.num ∷ pos p.den ∷ []) (a ⊗ (num (pos 1) ⊗ b)) ((num (pos 0) ⊗ b ⊕ a ⊗ num (pos 1)) ⊗ b) refl)

pub zero-*ℚ : (p : ℚ) → zero_ℚ *ℚ p ≡ zero_ℚ
zero-*ℚ p =
    let a = var 0 in let b = var 1 in
    ap (λ x. x *ℚ p) (sym (fraction-one (pos 0)))
    ∙ mul_fraction_left (pos 0) 1 p one_above
    ∙ same_fraction _ _ (pos 0) 1 (positive_product _ _ one_above p.positive) one_above
    (ring ℤ_ring (p.num ∷ pos p.den ∷ []) ((num (pos 0) ⊗ a) ⊗ num (pos 1)) (num (pos 0) ⊗ (num (pos 1) ⊗ b)) refl)
    ∙ fraction-one (pos 0)

pub one-*ℚ : (p : ℚ) → one_ℚ *ℚ p ≡ p
one-*ℚ p =
    let a = var 0 in let b = var 1 in
    ap (λ x. x *ℚ p) (sym (fraction-one (pos 1)))
    ∙ mul_fraction_left (pos 1) 1 p one_above
    ∙ fraction_is _ _ p (positive_product _ _ one_above p.positive)
    (ring ℤ_ring (p.num ∷ pos p.den ∷ []) (a ⊗ (num (pos 1) ⊗ b)) ((num (pos 1) ⊗ a) ⊗ b) refl)

pub neg_ℚ-+ℚ : (p : ℚ) → neg_ℚ p +ℚ p ≡ zero_ℚ
neg_ℚ-+ℚ p =
    let a = var 0 in let b = var 1 in
    ap (λ x. x +ℚ p) (neg_fraction p)
    ∙ add_fraction_left _ _ p p.positive
    ∙ same_fraction _ _ (pos 0) 1 (positive_product _ _ p.positive p.positive) one_above
    (ring ℤ_ring (p.num ∷ pos p.den ∷ []) ((minus a ⊗ b ⊕ a ⊗ b) ⊗ num (pos 1)) (num (pos 0) ⊗ (b ⊗ b)) refl)
    ∙ fraction-one (pos 0)

pub whole_ℚ-+ℤ : (j k : ℤ) → whole_ℚ (j +ℤ k) ≡ whole_ℚ j +ℚ whole_ℚ k
whole_ℚ-+ℤ j k =
    let a = var 0 in let b = var 1 in
    sym (fraction-one (j +ℤ k))
    ∙ same_fraction _ _ _ _ one_above one_above
    (ring ℤ_ring (j ∷ k ∷ []) ((a ⊕ b) ⊗ num (pos 1)) ((a ⊗ num (pos 1) ⊕ b ⊗ num (pos 1)) ⊗ num (pos 1)) refl)
    ∙ sym (add-fraction j 1 k 1 one_above one_above)
    ∙ ap (λ x. x +ℚ fraction k 1) (fraction-one j)
    ∙ ap (λ x. whole_ℚ j +ℚ x) (fraction-one k)

pub whole_ℚ-*ℤ : (j k : ℤ) → whole_ℚ (j *ℤ k) ≡ whole_ℚ j *ℚ whole_ℚ k
whole_ℚ-*ℤ j k =
    sym (fraction-one (j *ℤ k))
    ∙ sym (mul-fraction j 1 k 1 one_above one_above)
    ∙ ap (λ x. x *ℚ fraction k 1) (fraction-one j)
    ∙ ap (λ x. whole_ℚ j *ℚ x) (fraction-one k)

-- the rational numbers
abbrev pub ℚ_ring : CommutativeRing ℚ
ℚ_ring = record {
  zero = zero_ℚ;
  one = one_ℚ;
  add = ◌+ℚ◌;
  mul = ◌*ℚ◌;
  neg = neg_ℚ;
  of = whole_ℚ;
  add_zero = zero-+ℚ;
  add_comm = +ℚ_comm;
  add_assoc = +ℚ_assoc;
  neg_add = neg_ℚ-+ℚ;
  mul_one = one-*ℚ;
  mul_zero = zero-*ℚ;
  mul_comm = *ℚ_comm;
  mul_assoc = *ℚ_assoc;
  distrib = *ℚ-distrib_right;
  of_zero = refl;
  of_one = refl;
  of_add = whole_ℚ-+ℤ;
  of_mul = whole_ℚ-*ℤ;
}
