-- The order of the rational numbers, and the greatest whole number not above one.
use Rattle.std.proofs.Common.{◌≡◌, ℕ, ◌*◌, ◌<◌, refl, sym, ap, ◌∙◌, subst, arith, [], ◌∷◌}
use Rattle.std.specs.Prelude.{◌<ℤ◌, ◌≤ℤ◌}
use Rattle.std.specs.Int.{int_div_euclid}
use Rattle.std.proofs.lemmas.Int.{ints, by_lt_z}
use lib.IntN.{ℤ, pos, ◌+ℤ◌, ◌*ℤ◌}
use Rattle.tetri_algebra.specs.Integers.{*ℤ-one, mul_le_right, mul_lt_right, mul_le_cancel, mul_lt_cancel, mul_not_negative, mul_le_of_nonpositive}
use Rattle.tetri_algebra.specs.Quotients.{div_below, div_above}
use Rattle.tetri_algebra.specs.RingSolver.{var, ring, ◌⊕◌, ◌⊗◌}
use Rattle.tetri_algebra.specs.IntegerRing.{ℤ_ring}
use Rattle.tetri_algebra.specs.Rational.{ℚ, whole_ℚ, fraction, fraction-cross, same_rational}
use Rattle.tetri_algebra.specs.RationalRing.{◌+ℚ◌, ◌*ℚ◌, zero_ℚ, positive_product, sum_of_parts, product_of_parts, +ℚ_comm, num-whole_ℚ, den-whole_ℚ}

-- at most
infix 4 ◌≤ℚ◌
pub record ◌≤ℚ◌ (p q : ℚ) : Type 0 where
  pub cross : (p.num *ℤ pos q.den) ≤ℤ (q.num *ℤ pos p.den)

-- below
infix 4 ◌<ℚ◌
pub record ◌<ℚ◌ (p q : ℚ) : Type 0 where
  pub cross : (p.num *ℤ pos q.den) <ℤ (q.num *ℤ pos p.den)

-- ---- of whole numbers, where products are plain
positive_den : (p : ℚ) → pos 0 <ℤ pos p.den
positive_den p = let h = p.positive in omega (arith, ints)

nonnegative : (n : ℕ) → pos 0 ≤ℤ pos n
nonnegative n = omega (arith, ints)

le_between : (x y z w : ℤ) → x ≡ y → y ≤ℤ z → z ≡ w → x ≤ℤ w
le_between x y z w e h f = omega (arith, ints)

lt_between : (x y z w : ℤ) → x ≡ y → y <ℤ z → z ≡ w → x <ℤ w
lt_between x y z w e h f = omega (arith, ints)

-- ---- a total order
pub ≤ℚ_refl : (p : ℚ) → p ≤ℚ p
≤ℚ_refl p = record { cross = le_self (p.num *ℤ pos p.den) }
  where
    le_self : (x : ℤ) → x ≤ℤ x
    le_self x = omega (arith, ints)

pub ≤ℚ_from_≡ : (p q : ℚ) → p ≡ q → p ≤ℚ q
≤ℚ_from_≡ p q e = subst (λ x. p ≤ℚ x) e (≤ℚ_refl p)

le_along : (p p' q q' : ℚ) → p ≡ p' → q ≡ q' → p' ≤ℚ q' → p ≤ℚ q
le_along p p' q q' e f h = subst (λ x. x ≤ℚ q) (sym e) (subst (λ x. p' ≤ℚ x) (sym f) h)

pub ≤ℚ_antisymm : (p q : ℚ) → p ≤ℚ q → q ≤ℚ p → p ≡ q
≤ℚ_antisymm p q h k = same_rational p q (both (p.num *ℤ pos q.den) (q.num *ℤ pos p.den) h.cross k.cross)
  where
    both : (x y : ℤ) → x ≤ℤ y → y ≤ℤ x → x ≡ y
    both x y h k = omega (arith, ints)

pub by_<ℚ : {P : Type 0} (p q : ℚ) → (p <ℚ q → P) → (q ≤ℚ p → P) → P
by_<ℚ p q f g = by_lt_z (p.num *ℤ pos q.den) (q.num *ℤ pos p.den) (λ h. f (record { cross = h })) (λ h. g (record { cross = h }))

pub ≤ℚ_from_<ℚ : (p q : ℚ) → p <ℚ q → p ≤ℚ q
≤ℚ_from_<ℚ p q h = record { cross = weaken (p.num *ℤ pos q.den) (q.num *ℤ pos p.den) h.cross }
  where
    weaken : (x y : ℤ) → x <ℤ y → x ≤ℤ y
    weaken x y h = omega (arith, ints)

pub not_<ℚ : (p q : ℚ) → p <ℚ q → q ≤ℚ p → ⊥
not_<ℚ p q h k = clash (p.num *ℤ pos q.den) (q.num *ℤ pos p.den) h.cross k.cross
  where
    clash : (x y : ℤ) → x <ℤ y → y ≤ℤ x → ⊥
    clash x y h k = omega (arith, ints)

-- (a * d) * m = (a * m) * d
swap_factors : (a : ℤ) (d m : ℕ) → (a *ℤ pos d) *ℤ pos m ≡ (a *ℤ pos m) *ℤ pos d
swap_factors a d m = ring ℤ_ring (a ∷ pos d ∷ pos m ∷ []) ((var 0 ⊗ var 1) ⊗ var 2) ((var 0 ⊗ var 2) ⊗ var 1) refl

pub ≤ℚ_trans : (p q r : ℚ) → p ≤ℚ q → q ≤ℚ r → p ≤ℚ r
≤ℚ_trans p q r h k =
    record {
      cross = mul_le_cancel (pos q.den) _ _ (positive_den q)
          (chain _ _ _ _ _ _ (swap_factors p.num r.den q.den) (mul_le_right (pos r.den) _ _ (nonnegative r.den) h.cross)
          (swap_factors q.num p.den r.den) (mul_le_right (pos p.den) _ _ (nonnegative p.den) k.cross) (swap_factors r.num q.den p.den));
    }
  where
    chain : (x y z w u v : ℤ) → x ≡ y → y ≤ℤ z → z ≡ w → w ≤ℤ u → u ≡ v → x ≤ℤ v
    chain x y z w u v a b c d e = omega (arith, ints)

pub <ℚ-≤ℚ_trans : (p q r : ℚ) → p <ℚ q → q ≤ℚ r → p <ℚ r
<ℚ-≤ℚ_trans p q r h k =
    record {
      cross = mul_lt_cancel (pos q.den) _ _ (positive_den q)
          (chain _ _ _ _ _ _ (swap_factors p.num r.den q.den) (mul_lt_right (pos r.den) _ _ (positive_den r) h.cross)
          (swap_factors q.num p.den r.den) (mul_le_right (pos p.den) _ _ (nonnegative p.den) k.cross) (swap_factors r.num q.den p.den));
    }
  where
    chain : (x y z w u v : ℤ) → x ≡ y → y <ℤ z → z ≡ w → w ≤ℤ u → u ≡ v → x <ℤ v
    chain x y z w u v a b c d e = omega (arith, ints)

pub ≤ℚ-<ℚ_trans : (p q r : ℚ) → p ≤ℚ q → q <ℚ r → p <ℚ r
≤ℚ-<ℚ_trans p q r h k =
    record {
      cross = mul_lt_cancel (pos q.den) _ _ (positive_den q)
          (chain _ _ _ _ _ _ (swap_factors p.num r.den q.den) (mul_le_right (pos r.den) _ _ (nonnegative r.den) h.cross)
          (swap_factors q.num p.den r.den) (mul_lt_right (pos p.den) _ _ (positive_den p) k.cross) (swap_factors r.num q.den p.den));
    }
  where
    chain : (x y z w u v : ℤ) → x ≡ y → y ≤ℤ z → z ≡ w → w <ℤ u → u ≡ v → x <ℤ v
    chain x y z w u v a b c d e = omega (arith, ints)

-- ---- fractions in any terms
-- the cross products of two fractions, scaled to those of what they were made of
scaled_cross : (n : ℤ) (d : ℕ) (e k : ℕ) → 0 < d → ((fraction n d).num *ℤ pos k) *ℤ pos (d * e) ≡ (n *ℤ pos e) *ℤ pos ((fraction n d).den * k)
scaled_cross n d e k h =
    let p = fraction n d in
    let x = var 0 in let y = var 1 in let z = var 2 in let w = var 3 in
    ring ℤ_ring (p.num ∷ pos k ∷ pos d ∷ pos e ∷ []) ((x ⊗ y) ⊗ (z ⊗ w)) ((x ⊗ z) ⊗ (w ⊗ y)) refl
    ∙ ap (λ a. a *ℤ (pos e *ℤ pos k)) (fraction-cross n d h)
    ∙ ring ℤ_ring (n ∷ pos p.den ∷ pos e ∷ pos k ∷ []) ((x ⊗ y) ⊗ (z ⊗ w)) ((x ⊗ z) ⊗ (y ⊗ w)) refl

pub ≤ℚ-fraction : (n : ℤ) (d : ℕ) (m : ℤ) (e : ℕ) → 0 < d → 0 < e → (n *ℤ pos e) ≤ℤ (m *ℤ pos d) → fraction n d ≤ℚ fraction m e
≤ℚ-fraction n d m e h k l =
    let p = fraction n d in
    let q = fraction m e in
    let b : (q.num *ℤ pos p.den) *ℤ pos (d * e) ≡ (m *ℤ pos d) *ℤ pos (p.den * q.den) =
    ring ℤ_ring (q.num ∷ pos p.den ∷ pos d ∷ pos e ∷ []) ((var 0 ⊗ var 1) ⊗ (var 2 ⊗ var 3)) ((var 0 ⊗ var 1) ⊗ (var 3 ⊗ var 2)) refl
    ∙ scaled_cross m e d p.den k
    ∙ ring ℤ_ring (m ∷ pos d ∷ pos q.den ∷ pos p.den ∷ []) ((var 0 ⊗ var 1) ⊗ (var 2 ⊗ var 3)) ((var 0 ⊗ var 1) ⊗ (var 3 ⊗ var 2)) refl in
    let above : pos 0 <ℤ pos (d * e) = positive_pos (d * e) (positive_product d e h k) in
    record {
      cross = mul_le_cancel (pos (d * e)) _ _ above
          (le_between _ _ _ _ (scaled_cross n d e q.den h) (mul_le_right (pos (p.den * q.den)) _ _ (nonnegative (p.den * q.den)) l) (sym b));
    }
  where
    positive_pos : (k : ℕ) → 0 < k → pos 0 <ℤ pos k
    positive_pos k h = omega (arith, ints)

-- ---- sums and products
pub +ℚ-≤ℚ : (p q r : ℚ) → p ≤ℚ q → (p +ℚ r) ≤ℚ (q +ℚ r)
+ℚ-≤ℚ p q r h =
    let a = var 0 in let b = var 1 in let c = var 2 in let d = var 3 in let e = var 4 in
    let s = mul_le_right (pos (r.den * r.den)) _ _ (nonnegative (r.den * r.den)) h.cross in
    let x : (p.num *ℤ pos r.den +ℤ r.num *ℤ pos p.den) *ℤ pos (q.den * r.den) ≡ (p.num *ℤ pos q.den) *ℤ pos (r.den * r.den) +ℤ r.num *ℤ (pos p.den *ℤ (pos q.den *ℤ pos r.den)) =
    ring ℤ_ring (p.num ∷ pos p.den ∷ r.num ∷ pos r.den ∷ pos q.den ∷ []) ((a ⊗ d ⊕ c ⊗ b) ⊗ (e ⊗ d)) ((a ⊗ e) ⊗ (d ⊗ d) ⊕ c ⊗ (b ⊗ (e ⊗ d))) refl in
    let y : (q.num *ℤ pos r.den +ℤ r.num *ℤ pos q.den) *ℤ pos (p.den * r.den) ≡ (q.num *ℤ pos p.den) *ℤ pos (r.den * r.den) +ℤ r.num *ℤ (pos p.den *ℤ (pos q.den *ℤ pos r.den)) =
    ring ℤ_ring (q.num ∷ pos q.den ∷ r.num ∷ pos r.den ∷ pos p.den ∷ []) ((a ⊗ d ⊕ c ⊗ b) ⊗ (e ⊗ d)) ((a ⊗ e) ⊗ (d ⊗ d) ⊕ c ⊗ (e ⊗ (b ⊗ d))) refl in
    le_along _ _ _ _ (sum_of_parts p r) (sum_of_parts q r)
    (≤ℚ-fraction _ _ _ _ (positive_product _ _ p.positive r.positive) (positive_product _ _ q.positive r.positive) (le_between _ _ _ _ x (plus_right _ _ _ s) (sym y)))
  where
    plus_right : (x y z : ℤ) → x ≤ℤ y → (x +ℤ z) ≤ℤ (y +ℤ z)
    plus_right x y z h = omega (arith, ints)

pub +ℚ-≤ℚ_both : (p q r s : ℚ) → p ≤ℚ q → r ≤ℚ s → (p +ℚ r) ≤ℚ (q +ℚ s)
+ℚ-≤ℚ_both p q r s h k =
    ≤ℚ_trans (p +ℚ r) (q +ℚ r) (q +ℚ s) (+ℚ-≤ℚ p q r h)
    (subst (λ x. x ≤ℚ (q +ℚ s)) (+ℚ_comm r q) (subst (λ x. (r +ℚ q) ≤ℚ x) (+ℚ_comm s q) (+ℚ-≤ℚ r s q k)))

-- a sign is the numerator's
pub num_nonnegative : (p : ℚ) → zero_ℚ ≤ℚ p → pos 0 ≤ℤ p.num
num_nonnegative p h =
    le_between _ _ _ _ (sym (zero_times (zero_ℚ.num) p.den (num-whole_ℚ (pos 0)))) h.cross (ap (λ d. p.num *ℤ pos d) (den-whole_ℚ (pos 0)) ∙ *ℤ-one p.num)
  where
    zero_times : (x : ℤ) (d : ℕ) → x ≡ pos 0 → x *ℤ pos d ≡ pos 0
    zero_times x d e = rw e (omega (arith, ints))

pub num_nonpositive : (p : ℚ) → p ≤ℚ zero_ℚ → p.num ≤ℤ pos 0
num_nonpositive p h =
    le_between _ _ _ _ (sym (ap (λ d. p.num *ℤ pos d) (den-whole_ℚ (pos 0)) ∙ *ℤ-one p.num)) h.cross (zero_times (zero_ℚ.num) p.den (num-whole_ℚ (pos 0)))
  where
    zero_times : (x : ℤ) (d : ℕ) → x ≡ pos 0 → x *ℤ pos d ≡ pos 0
    zero_times x d e = rw e (omega (arith, ints))

product_cross : (k p : ℚ) (m : ℕ) → (k.num *ℤ p.num) *ℤ pos (k.den * m) ≡ (k.num *ℤ pos k.den) *ℤ (p.num *ℤ pos m)
product_cross k p m = ring ℤ_ring (k.num ∷ p.num ∷ pos k.den ∷ pos m ∷ []) ((var 0 ⊗ var 1) ⊗ (var 2 ⊗ var 3)) ((var 0 ⊗ var 2) ⊗ (var 1 ⊗ var 3)) refl

le_product : (k p q : ℚ) → ((k.num *ℤ pos k.den) *ℤ (p.num *ℤ pos q.den)) ≤ℤ ((k.num *ℤ pos k.den) *ℤ (q.num *ℤ pos p.den)) → (k *ℚ p) ≤ℚ (k *ℚ q)
le_product k p q h =
    le_along _ _ _ _ (product_of_parts k p) (product_of_parts k q)
    (≤ℚ-fraction _ _ _ _ (positive_product _ _ k.positive p.positive) (positive_product _ _ k.positive q.positive)
    (le_between _ _ _ _ (product_cross k p q.den) h (sym (product_cross k q p.den))))

pub *ℚ-≤ℚ_of_nonnegative : (k p q : ℚ) → zero_ℚ ≤ℚ k → p ≤ℚ q → (k *ℚ p) ≤ℚ (k *ℚ q)
*ℚ-≤ℚ_of_nonnegative k p q g h = le_product k p q (times_left _ _ _ (mul_not_negative k.num (pos k.den) (num_nonnegative k g) (nonnegative k.den)) h.cross)
  where
    times_left : (d x y : ℤ) → pos 0 ≤ℤ d → x ≤ℤ y → (d *ℤ x) ≤ℤ (d *ℤ y)
    times_left d x y h k = let e = mul_le_right d x y h k in omega (arith, ints)

pub *ℚ-≤ℚ_of_nonpositive : (k p q : ℚ) → k ≤ℚ zero_ℚ → p ≤ℚ q → (k *ℚ q) ≤ℚ (k *ℚ p)
*ℚ-≤ℚ_of_nonpositive k p q g h = le_product k q p (mul_le_of_nonpositive _ _ _ (not_positive k.num k.den (num_nonpositive k g)) h.cross)
  where
    not_positive : (x : ℤ) (d : ℕ) → x ≤ℤ pos 0 → (x *ℤ pos d) ≤ℤ pos 0
    not_positive x d h = let e = mul_le_right (pos d) x (pos 0) (nonnegative d) h in omega (arith, ints)

-- ---- whole numbers
pub whole_ℚ-≤ℚ : (j k : ℤ) → j ≤ℤ k → whole_ℚ j ≤ℚ whole_ℚ k
unfolding whole_ℚ
whole_ℚ-≤ℚ j k h = record { cross = le_between _ _ _ _ (*ℤ-one j) h (sym (*ℤ-one k)) }

pub le_from_whole_ℚ : (j k : ℤ) → whole_ℚ j ≤ℚ whole_ℚ k → j ≤ℤ k
unfolding whole_ℚ
le_from_whole_ℚ j k h = le_between _ _ _ _ (sym (*ℤ-one j)) h.cross (*ℤ-one k)

-- ---- the floor
-- the greatest whole number that is not above
abbrev pub floor_ℚ : ℚ → ℤ
floor_ℚ p = int_div_euclid p.num (pos p.den)

pub floor_ℚ-≤ℚ : (p : ℚ) → whole_ℚ (floor_ℚ p) ≤ℚ p
unfolding whole_ℚ
floor_ℚ-≤ℚ p = record { cross = le_between _ _ _ _ refl (div_below p.num (pos p.den) (positive_den p)) (sym (*ℤ-one p.num)) }

pub <ℚ-floor_ℚ : (p : ℚ) → p <ℚ whole_ℚ (floor_ℚ p +ℤ pos 1)
unfolding whole_ℚ
<ℚ-floor_ℚ p = record { cross = lt_between _ _ _ _ (*ℤ-one p.num) (div_above p.num (pos p.den) (positive_den p)) refl }

pub floor_ℚ_greatest : (n : ℤ) (p : ℚ) → whole_ℚ n ≤ℚ p → n ≤ℤ floor_ℚ p
floor_ℚ_greatest n p h =
    let l = ≤ℚ-<ℚ_trans (whole_ℚ n) p (whole_ℚ (floor_ℚ p +ℤ pos 1)) h (<ℚ-floor_ℚ p) in
    by_lt_z (floor_ℚ p) n
    (λ k. absurd (not_<ℚ _ _ l (whole_ℚ-≤ℚ _ _ (next (floor_ℚ p) n k))))
    (λ k. k)
  where
    next : (x y : ℤ) → x <ℤ y → (x +ℤ pos 1) ≤ℤ y
    next x y h = omega (arith, ints)

pub floor_ℚ_monotone : (p q : ℚ) → p ≤ℚ q → floor_ℚ p ≤ℤ floor_ℚ q
floor_ℚ_monotone p q h = floor_ℚ_greatest (floor_ℚ p) q (≤ℚ_trans _ p q (floor_ℚ-≤ℚ p) h)

pub floor_ℚ-whole_ℚ : (n : ℤ) → floor_ℚ (whole_ℚ n) ≡ n
floor_ℚ-whole_ℚ n =
    both (floor_ℚ (whole_ℚ n)) n (le_from_whole_ℚ _ _ (floor_ℚ-≤ℚ (whole_ℚ n))) (floor_ℚ_greatest n (whole_ℚ n) (≤ℚ_refl (whole_ℚ n)))
  where
    both : (x y : ℤ) → x ≤ℤ y → y ≤ℤ x → x ≡ y
    both x y h k = omega (arith, ints)
