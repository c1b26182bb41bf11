-- The sum that is formed is exact and in lowest terms.
use Rattle.std.proofs.Common.{◌≡◌, ℕ, ◌+◌, ◌*◌, ◌/◌, ◌<◌, refl, sym, ap, ◌∙◌, subst, arith, [], ◌∷◌, ◌⊎◌, inl, inr, ⊎_elim}
use Prim.Native.Nat.{◌∣◌}
use Rattle.std.proofs.Math.Nat.{dvd_refl, dvd_trans, dvd-add, dvd-sub, dvd-mul_left, one-dvd, div-mul_cancel, mul-div_assoc}
use Rattle.std.proofs.lemmas.Int.{unsigned_abs-mul}
use Rattle.std.specs.Prelude.{unsigned_abs, int_div, ◌<ℤ◌}
use lib.IntN.{ℤ, pos, negsuc, ◌+ℤ◌, ◌*ℤ◌, +ℤ_comm}
use borrow.Author.Differences.{up, down, sum_is_lem, abs_is}
use Rattle.tetri_algebra.specs.Gcd.{gcd_of}
use Rattle.tetri_algebra.specs.Coprime.{IsGcd-gcd_of, gcd_of_is, gcd_of_comm, dvd_from_coprime, coprime_below, coprime_mul, parts_coprime}
use Rattle.tetri_algebra.specs.Integers.{abs_positive, mul_positive}
use Rattle.tetri_algebra.specs.Quotients.{abs-int_div, int_div-mul}
use Rattle.tetri_algebra.specs.RingSolver.{var, ring, ◌⊕◌, ◌⊗◌}
use Rattle.tetri_algebra.specs.IntegerRing.{ℤ_ring}
use Rattle.tetri_num.specs.Forms.{common, sum_total, sum_num, sum_den}
use Rattle.tetri_num.proofs.Common.{common_above, div_positive, dvd_quotient}

pub sum_value : (a b c d : ℤ) → sum_num a b c d *ℤ (b *ℤ d) ≡ (a *ℤ d +ℤ c *ℤ b) *ℤ sum_den a b c d
sum_value a b c d =
    let g = common b d in
    let t = sum_total a b c d in
    let s = common t g in
    let i = IsGcd-gcd_of (unsigned_abs b) (unsigned_abs d) in
    let j = IsGcd-gcd_of (unsigned_abs t) (gcd_of (unsigned_abs b) (unsigned_abs d)) in
    let B0 = int_div b g in let D0 = int_div d g in let T0 = int_div t s in let E0 = int_div d s in
    let eb = int_div-mul b _ i.0 in
    let ed = int_div-mul d _ i.1 in
    let et = int_div-mul t _ j.0 in
    let es = int_div-mul d _ (dvd_trans _ j.1 i.1) in
    let A1 = var 0 in let B1 = var 1 in let C1 = var 2 in let D1 = var 3 in let G = var 4 in let S = var 5 in let T1 = var 6 in let E1 = var 7 in
    ap (λ n. T0 *ℤ (n *ℤ d)) (sym eb)
    ∙ ap (λ n. T0 *ℤ ((B0 *ℤ g) *ℤ n)) (sym es)
    ∙ ring ℤ_ring (a ∷ B0 ∷ c ∷ D0 ∷ g ∷ s ∷ T0 ∷ E0 ∷ []) (T1 ⊗ ((B1 ⊗ G) ⊗ (E1 ⊗ S))) (((T1 ⊗ S) ⊗ G) ⊗ (B1 ⊗ E1)) refl
    ∙ ap (λ n. (n *ℤ g) *ℤ (B0 *ℤ E0)) et
    ∙ ring ℤ_ring (a ∷ B0 ∷ c ∷ D0 ∷ g ∷ s ∷ T0 ∷ E0 ∷ []) (((A1 ⊗ D1 ⊕ C1 ⊗ B1) ⊗ G) ⊗ (B1 ⊗ E1)) ((A1 ⊗ (D1 ⊗ G) ⊕ C1 ⊗ (B1 ⊗ G)) ⊗ (B1 ⊗ E1)) refl
    ∙ ap (λ n. (a *ℤ n +ℤ c *ℤ (B0 *ℤ g)) *ℤ (B0 *ℤ E0)) ed
    ∙ ap (λ n. (a *ℤ d +ℤ c *ℤ n) *ℤ (B0 *ℤ E0)) eb

-- the size of a sum is the sum of the sizes, or their difference
abs_cases : (x y : ℤ) → (unsigned_abs (x +ℤ y) ≡ unsigned_abs x + unsigned_abs y) ⊎ ((unsigned_abs x ≡ unsigned_abs (x +ℤ y) + unsigned_abs y) ⊎ (unsigned_abs y ≡ unsigned_abs (x +ℤ y) + unsigned_abs x))
abs_cases x y = grind (arith, abs_is, sum_is_lem, low_side)
  where
    low_side : (z : ℤ) → (up z ≡ 0) ⊎ (down z ≡ 0)
    low_side (pos n) = inr refl
    low_side (negsuc n) = inl refl

-- what divides a sum and one side divides the other
dvd_other_side : (e : ℕ) (x y : ℤ) → e ∣ unsigned_abs (x +ℤ y) → e ∣ unsigned_abs y → e ∣ unsigned_abs x
dvd_other_side e x y p q = ⊎_elim
    (λ h. subst (λ n. e ∣ n) (omega arith) (dvd-sub e p q))
    (λ h. ⊎_elim (λ k. subst (λ n. e ∣ n) (sym k) (dvd-add e p q)) (λ k. subst (λ n. e ∣ n) (omega arith) (dvd-sub e q p)) h)
    (abs_cases x y)

-- one part of the sum's denominator is coprime to the total
part_coprime : (a c B0 D0 : ℤ) (b : ℕ) → gcd_of (unsigned_abs a) b ≡ 1 → gcd_of (unsigned_abs B0) (unsigned_abs D0) ≡ 1 → unsigned_abs B0 ∣ b →
    gcd_of (unsigned_abs (a *ℤ D0 +ℤ c *ℤ B0)) (unsigned_abs B0) ≡ 1
part_coprime a c B0 D0 b p q r =
    gcd_of_is _ _ 1 (
      one-dvd _,
      one-dvd _,
      λ e x y.
          let z : e ∣ unsigned_abs (a *ℤ D0) = dvd_other_side e (a *ℤ D0) (c *ℤ B0) x (subst (λ n. e ∣ n) (sym (unsigned_abs-mul c B0)) (dvd_trans e y (dvd-mul_left _ (unsigned_abs c)))) in
          let w : e ∣ unsigned_abs a * unsigned_abs D0 = subst (λ n. e ∣ n) (unsigned_abs-mul a D0) z in
          let v : e ∣ unsigned_abs a = dvd_from_coprime e (unsigned_abs a) (unsigned_abs D0) (coprime_below (unsigned_abs B0) (unsigned_abs D0) e _ q y (dvd_refl (unsigned_abs D0))) w in
          subst (λ n. e ∣ n) p ((IsGcd-gcd_of (unsigned_abs a) b).2 e v (dvd_trans e y r)),
    )

pub sum_den_positive : (a b c d : ℤ) → pos 0 <ℤ b → pos 0 <ℤ d → pos 0 <ℤ sum_den a b c d
sum_den_positive a b c d h k =
    let g = gcd_of (unsigned_abs b) (unsigned_abs d) in
    let i = IsGcd-gcd_of (unsigned_abs b) (unsigned_abs d) in
    let j = IsGcd-gcd_of (unsigned_abs (sum_total a b c d)) g in
    mul_positive _ _ (div_positive b g h i.0) (div_positive d _ k (dvd_trans _ j.1 i.1))

pub sum_coprime : (a b c d : ℤ) → pos 0 <ℤ b → pos 0 <ℤ d → gcd_of (unsigned_abs a) (unsigned_abs b) ≡ 1 → gcd_of (unsigned_abs c) (unsigned_abs d) ≡ 1 →
    gcd_of (unsigned_abs (sum_num a b c d)) (unsigned_abs (sum_den a b c d)) ≡ 1
sum_coprime a b c d hb hd ha hc =
    let g = gcd_of (unsigned_abs b) (unsigned_abs d) in
    let t = sum_total a b c d in
    let s = gcd_of (unsigned_abs t) g in
    let B0 = int_div b (pos g) in let D0 = int_div d (pos g) in
    let i = IsGcd-gcd_of (unsigned_abs b) (unsigned_abs d) in
    let j = IsGcd-gcd_of (unsigned_abs t) g in
    let gp : 0 < g = common_above b d hd in
    let pc : gcd_of (unsigned_abs B0) (unsigned_abs D0) ≡ 1 = simp abs-int_div (parts_coprime (unsigned_abs b) (unsigned_abs d) (abs_positive d hd)) in
    let pb : gcd_of (unsigned_abs t) (unsigned_abs B0) ≡ 1 = part_coprime a c B0 D0 (unsigned_abs b) ha pc (simp abs-int_div (dvd_quotient (unsigned_abs b) g i.0)) in
    let pd : gcd_of (unsigned_abs t) (unsigned_abs D0) ≡ 1 =
    ap (λ n. gcd_of (unsigned_abs n) (unsigned_abs D0)) (+ℤ_comm (a *ℤ D0) (c *ℤ B0))
    ∙ part_coprime c a D0 B0 (unsigned_abs d) hc (gcd_of_comm _ _ ∙ pc) (simp abs-int_div (dvd_quotient (unsigned_abs d) g i.1)) in
    let ts : unsigned_abs t / s ∣ unsigned_abs t = dvd_quotient (unsigned_abs t) s j.0 in
    let ds : unsigned_abs d / s ≡ unsigned_abs D0 * (g / s) =
    ap (λ n. n / s) (sym (div-mul_cancel g i.1)) ∙ mul-div_assoc s (unsigned_abs d / g) j.1 ∙ ap (λ n. n * (g / s)) (sym (abs-int_div d g)) in
    let q : gcd_of (unsigned_abs t / s) (unsigned_abs B0 * (unsigned_abs d / s)) ≡ 1 =
    rw ds (coprime_mul _ _ _ (coprime_below _ _ _ _ pb ts (dvd_refl _)) (coprime_mul _ _ _ (coprime_below _ _ _ _ pd ts (dvd_refl _)) (parts_coprime (unsigned_abs t) g gp))) in
    rw (abs-int_div t s) (rw (unsigned_abs-mul B0 (int_div d (pos s))) (rw (abs-int_div d s) q))
