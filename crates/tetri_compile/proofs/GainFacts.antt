-- No point of a program whose lower bounds are 0 earns more than its columns can.
use Rattle.std.proofs.Common.{◌≡◌, ℕ, zero, suc, ◌+◌, ◌*◌, ◌<◌, ◌≤◌, cond, true, false, List, [], ◌∷◌, length, All, sym, ap, ◌∙◌, subst, arith, refl, ⊎_elim, true≢false}
use Rattle.std.specs.Prelude.{unsigned_abs, ◌≤ℤ◌}
use Rattle.std.specs.List.{range_with_len}
use Rattle.std.proofs.Math.Nat.{mul-le-mul_left}
use Rattle.std.proofs.lemmas.Bool.{cond_both, cases_lt, ltb-false}
use Rattle.std.proofs.lemmas.Int.{ints}
use borrow.Author.Differences.{up}
use lib.IntN.{ℤ, pos, negsuc, ◌+ℤ◌, ◌*ℤ◌}
use lib.Signed.{lt_z}
use Rattle.tetri_algebra.specs.IntegerRing.{ℤ_ring}
use Rattle.tetri_algebra.specs.Sums.{dot}
use Rattle.tetri_ip.specs.declared.programs.Program.{Program}
use Rattle.tetri_ip.specs.Points.{Bounds, IsInBox, IsPoint, box_of, number_at, objective}
use Rattle.tetri_base.specs.Lists.{sum_of}
use Rattle.tetri_compile.specs.Gain.{gain_at, most_gain}

-- a cost times a count from 0 to an upper bound
cost_gain : (c : ℤ) (m n : ℕ) → m ≤ n → (c *ℤ pos m) ≤ℤ pos (cond (lt_z (pos 0) c) (unsigned_abs c * n) 0)
cost_gain c m n le =
    let f : up c * m ≤ up c * n = mul-le-mul_left (up c) le in
    cond_both (lt_z (pos 0) c) (unsigned_abs c * n) 0 (λ k. (c *ℤ pos m) ≤ℤ pos k) (λ e. above c e) (λ e. not_above c e)
  where
    above : (z : ℤ) → lt_z (pos 0) z ≡ true → (z *ℤ pos m) ≤ℤ pos (unsigned_abs z * n)
    above (pos a) e = let g : a * m ≤ a * n = mul-le-mul_left a le in omega (arith, ints, g)
    above (negsuc a) e = absurd (true≢false (sym e))

    not_above : (z : ℤ) → lt_z (pos 0) z ≡ false → (z *ℤ pos m) ≤ℤ pos 0
    not_above (pos a) e = let none : a ≡ 0 = omega (arith, ltb-false 0 a e) in subst (λ (k : ℕ). (pos k *ℤ pos m) ≤ℤ pos 0) (sym none) (omega (arith, ints))
    not_above (negsuc a) e = omega (arith, ints)

whole_gain : (c x u : ℤ) → pos 0 ≤ℤ x → x ≤ℤ u → (c *ℤ x) ≤ℤ pos (cond (lt_z (pos 0) c) (unsigned_abs c * unsigned_abs u) 0)
whole_gain c (pos m) (pos n) low high = cost_gain c m n (omega (arith, ints, high))
whole_gain c (pos m) (negsuc n) low high = absurd (omega (arith, ints, high))
whole_gain c (negsuc m) u low high = absurd (omega (arith, ints, low))

two_gains : (x y : ℤ) (m n : ℕ) → x ≤ℤ pos m → y ≤ℤ pos n → (x +ℤ y) ≤ℤ pos (m + n)
two_gains x y m n p q = omega (arith, ints, p, q)

number_past : (xs : List ℤ) (k : ℕ) → length xs ≤ k → number_at xs k ≡ pos 0
number_past [] k le = refl
number_past (x ∷ xs) zero le = absurd (omega (arith, le))
number_past (x ∷ xs) (suc k) le = number_past xs k (omega (arith, le))

module _ (p : Program) where
  -- the columns from a on
  costs_gain : (a : ℕ) (cs xs : List ℤ) → ((k : ℕ) → k < length cs → number_at p.costs.items (a + k) ≡ number_at cs k) →
      ((k : ℕ) → k < length cs → (pos 0 ≤ℤ number_at xs k) × (number_at xs k ≤ℤ number_at p.upper.items (a + k))) →
      dot ℤ_ring cs xs ≤ℤ pos (sum_of (gain_at p) (range_with_len a (length cs)))
  costs_gain a [] xs same within = omega (arith, ints)
  costs_gain a (c ∷ cs) [] same within = omega (arith, ints)
  costs_gain a (c ∷ cs) (x ∷ xs) same within =
      let here : a + 0 ≡ a = omega arith in
      let first = within 0 (omega arith) in
      let cost : number_at p.costs.items a ≡ c = ap (λ (j : ℕ). number_at p.costs.items j) (sym here) ∙ same 0 (omega arith) in
      let high : x ≤ℤ number_at p.upper.items a = subst (λ (j : ℕ). x ≤ℤ number_at p.upper.items j) here first.1 in
      two_gains (c *ℤ x) (dot ℤ_ring cs xs) (gain_at p a) (sum_of (gain_at p) (range_with_len (a + 1) (length cs)))
      (subst (λ (d : ℤ). (c *ℤ x) ≤ℤ pos (cond (lt_z (pos 0) d) (unsigned_abs d * unsigned_abs (number_at p.upper.items a)) 0)) (sym cost)
      (whole_gain c x (number_at p.upper.items a) first.0 high))
      (costs_gain (a + 1) cs xs (λ k lt. let e : a + 1 + k ≡ a + suc k = omega arith in ap (λ (j : ℕ). number_at p.costs.items j) e ∙ same (suc k) (omega (arith, lt)))
      (λ k lt. let e : a + suc k ≡ a + 1 + k = omega arith in let both = within (suc k) (omega (arith, lt)) in
      (both.0, subst (λ (j : ℕ). number_at xs k ≤ℤ number_at p.upper.items j) e both.1)))

  lower_zero : All (λ z. z ≡ pos 0) p.lower.items → (k : ℕ) → number_at p.lower.items k ≡ pos 0
  lower_zero low k = ⊎_elim (λ lt. low k (pos 0) lt) (λ ge. number_past p.lower.items k ge) (cases_lt k (length p.lower.items))

  gain_from : (point : List ℤ) → ((k : ℕ) → k < length p.costs.items → (pos 0 ≤ℤ number_at point k) × (number_at point k ≤ℤ number_at p.upper.items k)) →
      objective p point ≤ℤ pos (most_gain p)
  gain_from point within =
      costs_gain 0 p.costs.items point (λ k lt. let e : 0 + k ≡ k = omega arith in ap (λ (j : ℕ). number_at p.costs.items j) e)
      (λ k lt. let e : k ≡ 0 + k = omega arith in let both = within k lt in (both.0, subst (λ (j : ℕ). number_at point k ≤ℤ number_at p.upper.items j) e both.1))

  -- a point of the program
  pub point_gain : All (λ z. z ≡ pos 0) p.lower.items → (point : List ℤ) → IsPoint p (box_of p) point → objective p point ≤ℤ pos (most_gain p)
  point_gain low point at =
      gain_from point (λ k lt. let both = at.inside k lt in (subst (λ (z : ℤ). z ≤ℤ number_at point k) (lower_zero low k) both.0, both.1))

  -- a point of a region
  pub region_gain : All (λ z. z ≡ pos 0) p.lower.items → (b : Bounds) → IsInBox p b → (point : List ℤ) → IsPoint p b point → objective p point ≤ℤ pos (most_gain p)
  region_gain low b is point at =
      gain_from point (λ k lt.
      let both = at.inside k lt in
      let above : pos 0 ≤ℤ number_at b.lower k = subst (λ (z : ℤ). z ≤ℤ number_at b.lower k) (lower_zero low k) (is.above k lt) in
      let below = is.below k lt in
      (chained (pos 0) (number_at b.lower k) (number_at point k) above both.0, chained (number_at point k) (number_at b.upper k) (number_at p.upper.items k) both.1 below))
    where
      chained : (x y z : ℤ) → x ≤ℤ y → y ≤ℤ z → x ≤ℤ z
      chained x y z q r = omega (arith, ints, q, r)
