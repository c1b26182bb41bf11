-- The order of two fractions by their floors, and by what is left.
use Rattle.std.proofs.Common.{◌≡◌, refl, sym, ap, ◌∙◌, subst, arith, [], ◌∷◌, ◌⊎◌, ⊎_elim}
use Rattle.std.specs.Prelude.{◌<ℤ◌, ◌≤ℤ◌}
use Rattle.std.specs.declared.cmp.Ordering.{Ordering}
use Rattle.std.specs.Int.{int_div_euclid, int_rem_euclid}
use Rattle.std.specs.Ordering.{int_cmp, MatchOrdering}
use Rattle.std.specs.Cmp.{int_cmp_is}
use Rattle.std.specs.declared.cmp.Ordering.TheVariants.{Less, Equal, Greater}
use Rattle.std.proofs.lemmas.Int.{ints, by_lt_z}
use Rattle.std.proofs.lemmas.Cmp.{int_ranked}
use lib.IntN.{ℤ, pos, ◌+ℤ◌, ◌*ℤ◌}
use Rattle.tetri_algebra.specs.Integers.{mul_positive, mul_lt_right, mul_le_right}
use Rattle.tetri_algebra.specs.Quotients.{euclid, rem_range, div_below, div_above}
use Rattle.tetri_algebra.specs.RingSolver.{var, ring, ◌⊕◌, ◌⊗◌}
use Rattle.tetri_algebra.specs.IntegerRing.{ℤ_ring}
use Rattle.tetri_algebra.specs.Rational.{same_rational}
use Rattle.tetri_algebra.specs.RationalOrder.{◌<ℚ◌, floor_ℚ}
use Rattle.tetri_num.specs.declared.fractions.Frac.{Frac}
use Rattle.tetri_num.specs.Frac.{value}
use Rattle.tetri_num.proofs.Values.{at_values}

pub same_cmp : (x y u v : ℤ) → (x <ℤ y → u <ℤ v) → (x ≡ y → u ≡ v) → (y <ℤ x → v <ℤ u) → int_cmp x y ≡ int_cmp u v
same_cmp x y u v l e g =
    by_lt_z x y
    (λ h. sym (int_cmp_is x y Less h) ∙ int_cmp_is u v Less (l h))
    (λ h. by_lt_z y x
    (λ k. sym (int_cmp_is x y Greater k) ∙ int_cmp_is u v Greater (g k))
    (λ k. let s : x ≡ y = omega (arith, ints) in sym (int_cmp_is x y Equal s) ∙ int_cmp_is u v Equal (e s)))

-- floors that differ order the fractions
floor_less : (a b c d : ℤ) → pos 0 <ℤ b → pos 0 <ℤ d → int_div_euclid a b <ℤ int_div_euclid c d → (a *ℤ d) <ℤ (c *ℤ b)
floor_less a b c d h k l =
    let q = int_div_euclid a b in
    let p = int_div_euclid c d in
    let x = mul_lt_right d a ((q +ℤ pos 1) *ℤ b) k (div_above a b h) in
    let z = mul_le_right b (q +ℤ pos 1) p (weaken b h) (omega (arith, ints)) in
    let y = mul_le_right d ((q +ℤ pos 1) *ℤ b) (p *ℤ b) (weaken d k) z in
    let w = mul_le_right b (p *ℤ d) c (weaken b h) (div_below c d k) in
    let e : (p *ℤ b) *ℤ d ≡ (p *ℤ d) *ℤ b = ring ℤ_ring (p ∷ b ∷ d ∷ []) ((var 0 ⊗ var 1) ⊗ var 2) ((var 0 ⊗ var 2) ⊗ var 1) refl in
    chain (a *ℤ d) (((q +ℤ pos 1) *ℤ b) *ℤ d) ((p *ℤ b) *ℤ d) ((p *ℤ d) *ℤ b) (c *ℤ b) x y e w
  where
    weaken : (d : ℤ) → pos 0 <ℤ d → pos 0 ≤ℤ d
    weaken d h = omega (arith, ints)

    chain : (x y z w u : ℤ) → x <ℤ y → y ≤ℤ z → z ≡ w → w ≤ℤ u → x <ℤ u
    chain x y z w u a b e c = omega (arith, ints)

pub cmp_floor : (a b c d q p : ℤ) → pos 0 <ℤ b → pos 0 <ℤ d → q ≡ int_div_euclid a b → p ≡ int_div_euclid c d → (q ≡ p → ⊥) → int_cmp q p ≡ int_cmp (a *ℤ d) (c *ℤ b)
cmp_floor a b c d q p h k e f n =
    same_cmp q p (a *ℤ d) (c *ℤ b)
    (λ l. floor_less a b c d h k (rw (← e, ← f) l))
    (λ s. absurd (n s))
    (λ l. floor_less c d a b k h (rw (← e, ← f) l))

pub cmp_rest : (a b c d q p r s : ℤ) → pos 0 <ℤ b → pos 0 <ℤ d → q ≡ int_div_euclid a b → p ≡ int_div_euclid c d → q ≡ p → r ≡ int_rem_euclid a b → s ≡ int_rem_euclid c d →
    int_cmp (d *ℤ r) (b *ℤ s) ≡ int_cmp (a *ℤ d) (c *ℤ b)
cmp_rest a b c d q p r s h k e f n g i =
    let Q = var 0 in let B = var 1 in let D = var 2 in let R = var 3 in
    let u : a *ℤ d ≡ q *ℤ (b *ℤ d) +ℤ d *ℤ r =
    ap (λ z. z *ℤ d) (euclid a b h) ∙ rw (← e, ← g) (ring ℤ_ring (q ∷ b ∷ d ∷ r ∷ []) ((Q ⊗ B ⊕ R) ⊗ D) (Q ⊗ (B ⊗ D) ⊕ D ⊗ R) refl) in
    let v : c *ℤ b ≡ q *ℤ (b *ℤ d) +ℤ b *ℤ s =
    ap (λ z. z *ℤ b) (euclid c d k) ∙ rw (← f, ← i, ← n) (ring ℤ_ring (q ∷ b ∷ d ∷ s ∷ []) ((Q ⊗ D ⊕ R) ⊗ B) (Q ⊗ (B ⊗ D) ⊕ B ⊗ R) refl) in
    shifted (d *ℤ r) (b *ℤ s) (q *ℤ (b *ℤ d)) (a *ℤ d) (c *ℤ b) u v
  where
    shifted : (x y k u v : ℤ) → u ≡ k +ℤ x → v ≡ k +ℤ y → int_cmp x y ≡ int_cmp u v
    shifted x y k u v a b = same_cmp x y u v (λ h. omega (arith, ints)) (λ h. omega (arith, ints)) (λ h. omega (arith, ints))

-- where one remainder is 0 the remainders order the fractions
pub cmp_end : (b d r s : ℤ) → pos 0 <ℤ b → pos 0 <ℤ d → pos 0 ≤ℤ r → pos 0 ≤ℤ s → (r ≡ pos 0) ⊎ (s ≡ pos 0) → int_cmp r s ≡ int_cmp (d *ℤ r) (b *ℤ s)
cmp_end b d r s h k x y z = ⊎_elim (zero_left b d r s h k y) (zero_right b d r s h k x) z
  where
    times_zero : (d r : ℤ) → r ≡ pos 0 → d *ℤ r ≡ pos 0
    times_zero d r e = rw e (omega (arith, ints))

    zero_left : (b d r s : ℤ) → pos 0 <ℤ b → pos 0 <ℤ d → pos 0 ≤ℤ s → r ≡ pos 0 → int_cmp r s ≡ int_cmp (d *ℤ r) (b *ℤ s)
    zero_left b d r s h k y e =
        let t = times_zero d r e in
        same_cmp r s (d *ℤ r) (b *ℤ s)
        (λ l. let m : pos 0 <ℤ (b *ℤ s) = mul_positive b s h (omega (arith, ints)) in omega (arith, ints))
        (λ l. let m = times_zero b s (sym l ∙ e) in omega (arith, ints))
        (λ l. absurd (omega (arith, ints)))

    zero_right : (b d r s : ℤ) → pos 0 <ℤ b → pos 0 <ℤ d → pos 0 ≤ℤ r → s ≡ pos 0 → int_cmp r s ≡ int_cmp (d *ℤ r) (b *ℤ s)
    zero_right b d r s h k x e =
        let t = times_zero b s e in
        same_cmp r s (d *ℤ r) (b *ℤ s)
        (λ l. absurd (omega (arith, ints)))
        (λ l. let m = times_zero d r (l ∙ e) in omega (arith, ints))
        (λ l. let m : pos 0 <ℤ (d *ℤ r) = mul_positive d r k (omega (arith, ints)) in omega (arith, ints))

-- the two together: what is answered where a remainder is 0
pub cmp_ends : (a b c d q p r s : ℤ) → pos 0 <ℤ b → pos 0 <ℤ d → q ≡ int_div_euclid a b → p ≡ int_div_euclid c d → q ≡ p → r ≡ int_rem_euclid a b → s ≡ int_rem_euclid c d →
    (r ≡ pos 0) ⊎ (s ≡ pos 0) → int_cmp r s ≡ int_cmp (a *ℤ d) (c *ℤ b)
cmp_ends a b c d q p r s h k e f n g i z =
    cmp_end b d r s h k (rw g (rem_range a b h).0) (rw i (rem_range c d k).0) z ∙ cmp_rest a b c d q p r s h k e f n g i

-- a clause at the numbers as the code passes them
pub via : {X : Type 0} → (f : ℤ → ℤ → X) (a a' b b' : ℤ) (x : X) → x ≡ f a' b' → a' ≡ a → b' ≡ b → x ≡ f a b
via f a a' b b' x h e g = h ∙ ap (λ z. f z b') e ∙ ap (λ z. f a z) g

-- ---- as rational numbers
pub compare_values : (x y : Frac) (r : Ordering) → r ≡ int_cmp (x.num *ℤ y.den) (y.num *ℤ x.den) → MatchOrdering r (value x <ℚ value y) (value x ≡ value y) (value y <ℚ value x)
compare_values x y r e =
    by_order r (subst (λ z. MatchOrdering r (z <ℤ (y.num *ℤ x.den)) (z ≡ y.num *ℤ x.den) ((y.num *ℤ x.den) <ℤ z)) (sym (at_values (λ a b c d. a *ℤ d) x y)) (int_ranked _ _ r e))
  where
    by_order : (r : Ordering) → MatchOrdering r (((value x).num *ℤ pos (value y).den) <ℤ (y.num *ℤ x.den)) ((value x).num *ℤ pos (value y).den ≡ y.num *ℤ x.den) ((y.num *ℤ x.den) <ℤ ((value x).num *ℤ pos (value y).den)) →
        MatchOrdering r (value x <ℚ value y) (value x ≡ value y) (value y <ℚ value x)
    by_order Less h = record { cross = subst (λ z. ((value x).num *ℤ pos (value y).den) <ℤ z) (sym (at_values (λ a b c d. c *ℤ b) x y)) h }
    by_order Equal h = same_rational (value x) (value y) (h ∙ sym (at_values (λ a b c d. c *ℤ b) x y))
    by_order Greater h = record { cross = subst (λ z. z <ℤ ((value x).num *ℤ pos (value y).den)) (sym (at_values (λ a b c d. c *ℤ b) x y)) h }

-- ---- the floor
pub floor_value : (x : Frac) (q : ℤ) → q ≡ int_div_euclid x.num x.den → q ≡ floor_ℚ (value x)
floor_value x q e = e ∙ sym (at_values (λ a b c d. int_div_euclid a b) x x)

pub floor_below : (a d q : ℤ) → q ≡ int_div_euclid a d → pos 0 <ℤ d → (q *ℤ d) ≤ℤ a
floor_below a d q e h = rw e (div_below a d h)

pub floor_above : (a d q : ℤ) → q ≡ int_div_euclid a d → pos 0 <ℤ d → a <ℤ ((q +ℤ pos 1) *ℤ d)
floor_above a d q e h = rw e (div_above a d h)

-- ---- the short ways
-- with one denominator the numerators decide
pub one_den_cmp : (a b c d a' c' : ℤ) (r : Ordering) → r ≡ int_cmp a' c' → a' ≡ a → c' ≡ c → b ≡ d → pos 0 <ℤ d → r ≡ int_cmp (a *ℤ d) (c *ℤ b)
one_den_cmp a b c d a' c' r h e f g k =
    h ∙ ap (λ z. int_cmp z c') e ∙ ap (λ z. int_cmp a z) f
    ∙ same_cmp a c (a *ℤ d) (c *ℤ d) (mul_lt_right d a c k) (ap (λ z. z *ℤ d)) (mul_lt_right d c a k)
    ∙ ap (λ z. int_cmp (a *ℤ d) (c *ℤ z)) (sym g)

-- the cross products themselves
pub cross_cmp : (x y u v : ℤ) (r : Ordering) → r ≡ int_cmp u v → u ≡ x → v ≡ y → r ≡ int_cmp x y
cross_cmp x y u v r h e f = h ∙ ap (λ z. int_cmp z v) e ∙ ap (λ z. int_cmp x z) f
