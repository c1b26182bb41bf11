-- The product that is formed is exact and in lowest terms.
use Rattle.std.proofs.Common.{◌≡◌, ℕ, ◌*◌, ◌/◌, ◌<◌, refl, sym, ap, ◌∙◌, [], ◌∷◌}
use Rattle.std.proofs.lemmas.Int.{unsigned_abs-mul}
use Rattle.std.specs.Prelude.{unsigned_abs, int_div, ◌<ℤ◌}
use lib.IntN.{ℤ, pos, ◌*ℤ◌}
use Rattle.tetri_algebra.specs.Gcd.{gcd_of}
use Rattle.tetri_algebra.specs.Coprime.{IsGcd-gcd_of, coprime_below, coprime_mul, coprime_mul_left, parts_coprime}
use Rattle.tetri_algebra.specs.Integers.{abs_positive, mul_positive}
use Rattle.tetri_algebra.specs.Quotients.{abs-int_div, int_div-mul}
use Rattle.tetri_algebra.specs.RingSolver.{var, ring, ◌⊗◌}
use Rattle.tetri_algebra.specs.IntegerRing.{ℤ_ring}
use Rattle.tetri_num.specs.Forms.{common, product_num, product_den}
use Rattle.tetri_num.proofs.Common.{div_positive, dvd_quotient}

pub product_value : (a b c d : ℤ) → product_num a b c d *ℤ (b *ℤ d) ≡ (a *ℤ c) *ℤ product_den a b c d
product_value a b c d =
    let g = common a d in
    let f = common c b in
    let i = IsGcd-gcd_of (unsigned_abs a) (unsigned_abs d) in
    let j = IsGcd-gcd_of (unsigned_abs c) (unsigned_abs b) in
    let A0 = int_div a g in let B0 = int_div b f in let C0 = int_div c f in let D0 = int_div d g in
    let x = var 0 in let y = var 1 in let z = var 2 in let w = var 3 in let u = var 4 in let v = var 5 in
    ap (λ n. (A0 *ℤ C0) *ℤ (n *ℤ d)) (sym (int_div-mul b _ j.1))
    ∙ ap (λ n. (A0 *ℤ C0) *ℤ ((B0 *ℤ f) *ℤ n)) (sym (int_div-mul d _ i.1))
    ∙ ring ℤ_ring (A0 ∷ B0 ∷ C0 ∷ D0 ∷ g ∷ f ∷ []) ((x ⊗ z) ⊗ ((y ⊗ v) ⊗ (w ⊗ u))) (((x ⊗ u) ⊗ (z ⊗ v)) ⊗ (y ⊗ w)) refl
    ∙ ap (λ n. (n *ℤ (C0 *ℤ f)) *ℤ (B0 *ℤ D0)) (int_div-mul a _ i.0)
    ∙ ap (λ n. (a *ℤ n) *ℤ (B0 *ℤ D0)) (int_div-mul c _ j.0)

pub product_den_positive : (a b c d : ℤ) → pos 0 <ℤ b → pos 0 <ℤ d → pos 0 <ℤ product_den a b c d
product_den_positive a b c d h k =
    let i = IsGcd-gcd_of (unsigned_abs a) (unsigned_abs d) in
    let j = IsGcd-gcd_of (unsigned_abs c) (unsigned_abs b) in
    mul_positive _ _ (div_positive b _ h j.1) (div_positive d _ k i.1)

natural_coprime : (a b c d : ℕ) → 0 < b → 0 < d → gcd_of a b ≡ 1 → gcd_of c d ≡ 1 →
    gcd_of ((a / gcd_of a d) * (c / gcd_of c b)) ((b / gcd_of c b) * (d / gcd_of a d)) ≡ 1
natural_coprime a b c d h k p q =
    let i = IsGcd-gcd_of a d in
    let j = IsGcd-gcd_of c b in
    coprime_mul_left _ _ _
    (coprime_mul _ _ _ (coprime_below a b _ _ p (dvd_quotient a _ i.0) (dvd_quotient b _ j.1)) (parts_coprime a d k))
    (coprime_mul _ _ _ (parts_coprime c b h) (coprime_below c d _ _ q (dvd_quotient c _ j.0) (dvd_quotient d _ i.1)))

pub product_coprime : (a b c d : ℤ) → pos 0 <ℤ b → pos 0 <ℤ d → gcd_of (unsigned_abs a) (unsigned_abs b) ≡ 1 → gcd_of (unsigned_abs c) (unsigned_abs d) ≡ 1 →
    gcd_of (unsigned_abs (product_num a b c d)) (unsigned_abs (product_den a b c d)) ≡ 1
product_coprime a b c d h k p q =
    simp (unsigned_abs-mul, abs-int_div) (natural_coprime (unsigned_abs a) (unsigned_abs b) (unsigned_abs c) (unsigned_abs d) (abs_positive b h) (abs_positive d k) p q)
