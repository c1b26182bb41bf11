-- The greatest common divisor: that it is one, what has none above 1, and Euclid's lemma.
use Rattle.std.proofs.Common.{◌≡◌, ℕ, ◌*◌, ◌/◌, ◌%◌, ◌^◌, ◌-◌, ◌<◌, ◌≤◌, refl, sym, ap, ◌∙◌, subst, arith, Bool, true, false, cond, eqb}
use Prim.Native.Nat.{zero, suc, ◌∣◌}
use Rattle.std.proofs.Math.Nat.{pow-zero, pow-suc, dvd_refl, dvd-zero, dvd_trans, dvd_antisymm, dvd-mul_left, dvd-mul_right, one-dvd, pos_of_dvd_of_pos, mul-div-mul_left, div-add-mod, mod-lt, mul-dvd-mul_left, mul-dvd-mul_right, mul_comm, mul-div_cancel', mul-div_cancel_left}
use Rattle.std.proofs.lemmas.Nat.Gcd.{IsGcd-from_mod, IsGcd-from_sub, IsGcd-from_zero, same_from_IsGcd, IsGcd-swap}
use Rattle.std.proofs.lemmas.Bool.{eqb-true, false≢true}
use Rattle.std.specs.Int.{IsGcd}
use Rattle.tetri_algebra.specs.Gcd.{gcd_within, gcd_of, IsLcm, lcm_of}

eqb_false_pos : (b : ℕ) → eqb b 0 ≡ false → 0 < b
eqb_false_pos zero e = absurd (false≢true (sym e))
eqb_false_pos (suc b) e = omega arith

by_test : (a b r : ℕ) (t : Bool) → eqb b 0 ≡ t → (0 < b → IsGcd b (a % b) r) → IsGcd a b (cond t a r)
by_test a b r true e h = IsGcd-from_zero a b (eqb-true b 0 e)
by_test a b r false e h = IsGcd-from_mod a b r (h (eqb_false_pos b e))

IsGcd-gcd_within : (k a b : ℕ) → b < k → IsGcd a b (gcd_within k a b)
unfolding gcd_within
IsGcd-gcd_within zero a b h = absurd (omega arith)
IsGcd-gcd_within (suc k) a b h = by_test a b _ (eqb b 0) refl (λ p. let m : a % b < b = mod-lt a p in IsGcd-gcd_within k b (a % b) (omega arith))

pub IsGcd-gcd_of : (a b : ℕ) → IsGcd a b (gcd_of a b)
unfolding gcd_of
IsGcd-gcd_of a b = IsGcd-gcd_within (suc b) a b (omega arith)

pub gcd_of_is : (a b g : ℕ) → IsGcd a b g → gcd_of a b ≡ g
gcd_of_is a b g h = same_from_IsGcd a b _ g (IsGcd-gcd_of a b) h

mul-mod : (m a b : ℕ) → 0 < m → 0 < b → (m * a) % (m * b) ≡ m * (a % b)
mul-mod m a b h k =
    let p = div-add-mod (m * a) (m * b) in
    let q = ap (λ n. m * n) (div-add-mod a b) in
    let e = ap (λ n. m * b * n) (mul-div-mul_left a b h) in
    omega (arith, p, q, e)

mul_by_test : (m a b r : ℕ) (t : Bool) → 0 < m → eqb b 0 ≡ t → (0 < b → IsGcd (m * b) (m * (a % b)) (m * r)) → IsGcd (m * a) (m * b) (m * cond t a r)
mul_by_test m a b r true p e h = IsGcd-from_zero (m * a) (m * b) (ap (λ n. m * n) (eqb-true b 0 e) ∙ omega arith)
mul_by_test m a b r false p e h =
    let q = eqb_false_pos b e in
    IsGcd-from_mod (m * a) (m * b) _ (subst (λ n. IsGcd (m * b) n (m * r)) (sym (mul-mod m a b p q)) (h q))

IsGcd-mul : (k m a b : ℕ) → b < k → 0 < m → IsGcd (m * a) (m * b) (m * gcd_within k a b)
unfolding gcd_within
IsGcd-mul zero m a b h p = absurd (omega arith)
IsGcd-mul (suc k) m a b h p = mul_by_test m a b _ (eqb b 0) p refl (λ q. let l : a % b < b = mod-lt a q in IsGcd-mul k m b (a % b) (omega arith) p)

pub gcd_of-mul : (m a b : ℕ) → 0 < m → gcd_of (m * a) (m * b) ≡ m * gcd_of a b
unfolding gcd_of
gcd_of-mul m a b h = gcd_of_is (m * a) (m * b) _ (IsGcd-mul (suc b) m a b (omega arith) h)

pub gcd_of_comm : (a b : ℕ) → gcd_of a b ≡ gcd_of b a
gcd_of_comm a b = gcd_of_is a b _ (IsGcd-swap b a _ (IsGcd-gcd_of b a))

-- what divides a product and has nothing in common with one factor divides the other
pub dvd_from_coprime : (a b c : ℕ) → gcd_of a c ≡ 1 → a ∣ b * c → a ∣ b
dvd_from_coprime a zero c e d = dvd-zero a
dvd_from_coprime a (suc b) c e d =
    let m = suc b in
    let g = IsGcd-gcd_of (m * a) (m * c) in
    let h : gcd_of (m * a) (m * c) ≡ m = gcd_of-mul m a c (omega arith) ∙ ap (λ n. m * n) e ∙ omega arith in
    subst (λ n. a ∣ n) h (g.2 a (dvd-mul_left a m) d)

-- two pairs in lowest terms with equal cross products have equal second numbers
pub same_den : (n d n' d' : ℕ) → gcd_of n d ≡ 1 → gcd_of n' d' ≡ 1 → n * d' ≡ n' * d → d ≡ d'
same_den n d n' d' e e' h =
    dvd_antisymm
    (dvd_from_coprime d d' n (gcd_of_comm d n ∙ e) (subst (λ k. d ∣ k) (sym h ∙ mul_comm n d') (dvd-mul_left d n')))
    (dvd_from_coprime d' d n' (gcd_of_comm d' n' ∙ e') (subst (λ k. d' ∣ k) (h ∙ mul_comm n' d) (dvd-mul_left d' n)))

pub mul_cancel_left : (g a b : ℕ) → 0 < g → g * a ≡ g * b → a ≡ b
mul_cancel_left g a b h e = sym (mul-div_cancel_left a h) ∙ ap (λ n. n / g) e ∙ mul-div_cancel_left b h

-- what is left when the greatest common divisor is divided out
pub coprime_parts : (g a b : ℕ) → 0 < g → gcd_of (g * a) (g * b) ≡ g → gcd_of a b ≡ 1
coprime_parts g a b h e =
    let p : g * gcd_of a b ≡ g * 1 = sym (gcd_of-mul g a b h) ∙ e ∙ omega arith in
    mul_cancel_left g (gcd_of a b) 1 h p

pub coprime_below : (x y x' y' : ℕ) → gcd_of x y ≡ 1 → x' ∣ x → y' ∣ y → gcd_of x' y' ≡ 1
coprime_below x y x' y' e p q = gcd_of_is x' y' 1 (one-dvd x', one-dvd y', λ d a b. subst (λ n. d ∣ n) e ((IsGcd-gcd_of x y).2 d (dvd_trans d a p) (dvd_trans d b q)))

pub coprime_mul : (x y z : ℕ) → gcd_of x y ≡ 1 → gcd_of x z ≡ 1 → gcd_of x (y * z) ≡ 1
coprime_mul x y z p q =
    gcd_of_is x (y * z) 1 (
      one-dvd x,
      one-dvd (y * z),
      λ d a b.
          subst (λ n. d ∣ n) p ((IsGcd-gcd_of x y).2 d a (dvd_from_coprime d y z (coprime_below x z d z q a (dvd_refl z)) b)),
    )

pub coprime_mul_left : (x y z : ℕ) → gcd_of x z ≡ 1 → gcd_of y z ≡ 1 → gcd_of (x * y) z ≡ 1
coprime_mul_left x y z p q = gcd_of_comm (x * y) z ∙ coprime_mul z x y (gcd_of_comm z x ∙ p) (gcd_of_comm z y ∙ q)

-- the quotients by the greatest common divisor are coprime
pub parts_coprime : (x y : ℕ) → 0 < y → gcd_of (x / gcd_of x y) (y / gcd_of x y) ≡ 1
parts_coprime x y h =
    let g = gcd_of x y in
    let i = IsGcd-gcd_of x y in
    coprime_parts g (x / g) (y / g) (pos_of_dvd_of_pos i.1 h) (ap (λ n. gcd_of n (g * (y / g))) (mul-div_cancel' g i.0) ∙ ap (λ n. gcd_of x n) (mul-div_cancel' g i.1))

pub gcd_of-one : (n : ℕ) → gcd_of n 1 ≡ 1
gcd_of-one n = gcd_of_is n 1 1 (one-dvd n, one-dvd 1, λ d p q. q)

-- a factor that is coprime to one side adds nothing
pub gcd_of-mul_coprime : (x r c : ℕ) → gcd_of x c ≡ 1 → gcd_of x (r * c) ≡ gcd_of x r
gcd_of-mul_coprime x r c e =
    let i = IsGcd-gcd_of x r in
    gcd_of_is x (r * c) (gcd_of x r) (
      i.0,
      dvd_trans _ i.1 (dvd-mul_right r c),
      λ d p q.
          i.2 d p (dvd_from_coprime d r c (coprime_below x c d c e p (dvd_refl c)) q),
    )

pub coprime_pow : (x y k : ℕ) → gcd_of x y ≡ 1 → gcd_of x (y ^ k) ≡ 1
coprime_pow x y zero e = ap (λ n. gcd_of x n) (pow-zero y) ∙ gcd_of-one x
coprime_pow x y (suc k) e = ap (λ n. gcd_of x n) (pow-suc y k) ∙ coprime_mul x (y ^ k) y (coprime_pow x y k e) e

pub gcd_of_self : (n : ℕ) → gcd_of n n ≡ n
gcd_of_self n = gcd_of_is n n n (dvd_refl n, dvd_refl n, λ d p q. p)

pub gcd_of-sub : (a b : ℕ) → b ≤ a → gcd_of (a - b) b ≡ gcd_of a b
gcd_of-sub a b h = sym (gcd_of_is a b _ (IsGcd-from_sub a b _ h (IsGcd-gcd_of (a - b) b)))

pub gcd_of-zero : (n : ℕ) → gcd_of n 0 ≡ n
unfolding gcd_of gcd_within
gcd_of-zero n = refl

-- ---- the least common multiple
pub IsLcm-lcm_of : (a b : ℕ) → 0 < a → 0 < b → IsLcm a b (lcm_of a b)
IsLcm-lcm_of a b h k =
    let g = gcd_of a b in
    let i = IsGcd-gcd_of a b in
    let gp : 0 < g = pos_of_dvd_of_pos i.0 h in
    let ea : g * (a / g) ≡ a = mul-div_cancel' g i.0 in
    let eb : g * (b / g) ≡ b = mul-div_cancel' g i.1 in
    let m : (a / g) * b ≡ a * (b / g) = ap (λ n. (a / g) * n) (sym eb) ∙ regroup (a / g) g (b / g) ∙ ap (λ n. n * (b / g)) ea in
    let e : gcd_of (a / g) (b / g) ≡ 1 = coprime_parts g (a / g) (b / g) gp (ap (λ x. gcd_of x (g * (b / g))) ea ∙ ap (λ x. gcd_of a x) eb) in
    record {
      left = subst (λ n. a ∣ n) (sym m) (dvd-mul_right a (b / g));
      right = dvd-mul_left b (a / g);
      least = λ n p q. least_at n a b (a / g) (b / g) m e p q;
    }
  where
    regroup : (x y z : ℕ) → x * (y * z) ≡ (y * x) * z
    regroup x y z = omega arith

    least_at : (n a b a' b' : ℕ) → a' * b ≡ a * b' → gcd_of a' b' ≡ 1 → a ∣ n → b ∣ n → a' * b ∣ n
    least_at zero a b a' b' m e p q = dvd-zero (a' * b)
    least_at (suc n) a b a' b' m e p q =
        let k = suc n in
        let x : a' * b ∣ k * a' = subst (λ z. a' * b ∣ z) (mul_comm a' k) (mul-dvd-mul_left b a' q) in
        let y : a' * b ∣ k * b' = subst (λ z. z ∣ k * b') (sym m) (mul-dvd-mul_right a p b') in
        let s : gcd_of (k * a') (k * b') ≡ k = gcd_of-mul k a' b' (omega arith) ∙ ap (λ z. k * z) e ∙ omega arith in
        subst (λ z. a' * b ∣ z) s ((IsGcd-gcd_of (k * a') (k * b')).2 (a' * b) x y)
