-- The binary algorithm for the greatest common divisor.
use Rattle.std.proofs.Common.{◌≡◌, ℕ, ◌+◌, ◌-◌, ◌*◌, ◌/◌, ◌%◌, ◌^◌, ◌<◌, ◌≤◌, min, max, refl, sym, ap, ◌∙◌, subst, arith, ⊎_elim}
use Prim.Native.Nat.{zero, suc}
use Rattle.std.specs.Int.{IsGcd, bit_at, trailing_zeros}
use Rattle.std.proofs.Math.Nat.{one-dvd, mod-eq_of_lt, mul_comm, pow-suc, div-div-eq-div-mul}
use Rattle.std.proofs.lemmas.Bool.{cases_lt}
use Rattle.std.proofs.lemmas.Nat.{pow_pos}
use Rattle.std.proofs.lemmas.Nat.Bits.{bit_at-trailing_zeros}
use Rattle.std.proofs.lemmas.Nat.Gcd.{IsGcd-from_mod}
use mir.Syntax.{w64}
use Rattle.tetri_algebra.specs.Gcd.{gcd_of}
use Rattle.tetri_algebra.specs.Coprime.{gcd_of_is, gcd_of_comm, gcd_of_self, gcd_of-zero, gcd_of-mul, gcd_of-mul_coprime, coprime_pow, gcd_of-sub}
use Rattle.tetri_num.proofs.Greatest.{gcd_of-le}

-- a number whose low k bits are 0 is a multiple of 2 ^ k
low_bits_zero : (n k : ℕ) → ((i : ℕ) → i < k → bit_at n i ≡ 0) → n / 2 ^ k * 2 ^ k ≡ n
low_bits_zero n zero h = div_one n
  where
    div_one : (n : ℕ) → n / 1 * 1 ≡ n
    div_one n = omega arith
low_bits_zero n (suc k) h =
    let e = low_bits_zero n k (λ i l. h i (omega arith)) in
    let b : n / 2 ^ k % 2 ≡ 0 = h k (omega arith) in
    step (n / 2 ^ k) (n / 2 ^ suc k) (2 ^ k) (2 ^ suc k) n (ap (λ d. n / d) (pow-suc 2 k) ∙ sym (div-div-eq-div-mul n (2 ^ k) 2)) b (pow-suc 2 k) e
  where
    step : (q r p s n : ℕ) → r ≡ q / 2 → q % 2 ≡ 0 → s ≡ p * 2 → q * p ≡ n → r * s ≡ n
    step q r p s n e f g h =
        let two : q ≡ 2 * r = omega arith in
        let left : r * s ≡ r * (p * 2) = ap (λ z. r * z) g in
        let right : q * p ≡ 2 * r * p = ap (λ z. z * p) two in
        omega arith

-- ---- odd numbers
pub odd_quotient : (n : ℕ) → 0 < n → n < 2 ^ 64 → (n / 2 ^ trailing_zeros w64 n) % 2 ≡ 1
odd_quotient n h k = (bit_at-trailing_zeros w64 n h k).1

pub odd_quotient-mul : (n : ℕ) → 0 < n → n < 2 ^ 64 → n / 2 ^ trailing_zeros w64 n * 2 ^ trailing_zeros w64 n ≡ n
odd_quotient-mul n h k = low_bits_zero n (trailing_zeros w64 n) (bit_at-trailing_zeros w64 n h k).2

pub zeros_below : (n : ℕ) → 0 < n → n < 2 ^ 64 → trailing_zeros w64 n < 64
zeros_below n h k = (bit_at-trailing_zeros w64 n h k).0

odd_coprime : (x k : ℕ) → x % 2 ≡ 1 → gcd_of x (2 ^ k) ≡ 1
odd_coprime x k h = coprime_pow x 2 k (gcd_of_is x 2 1 (IsGcd-from_mod x 2 1 (subst (λ m. IsGcd 2 m 1) (sym h) (one-dvd 2, one-dvd 1, λ d p q. q))))

-- powers of 2 add nothing to an odd number's divisors
odd_strip : (x r k n : ℕ) → x % 2 ≡ 1 → r * 2 ^ k ≡ n → gcd_of x n ≡ gcd_of x r
odd_strip x r k n h e = ap (λ z. gcd_of x z) (sym e) ∙ gcd_of-mul_coprime x r (2 ^ k) (odd_coprime x k h)

odd_step_le : (x y r k : ℕ) → y ≤ x → y % 2 ≡ 1 → r * 2 ^ k ≡ x - y → gcd_of r y ≡ gcd_of x y
odd_step_le x y r k l h e = gcd_of_comm r y ∙ sym (odd_strip y r k (x - y) h e) ∙ gcd_of_comm y (x - y) ∙ gcd_of-sub x y l

-- one step: the difference without its factors 2 in the place of the greater number
pub odd_step : (x y r k : ℕ) → x % 2 ≡ 1 → y % 2 ≡ 1 → r * 2 ^ k ≡ max x y - min x y → gcd_of r (min x y) ≡ gcd_of x y
odd_step x y r k h j e =
    ⊎_elim
    (λ l.
    let m : min x y ≡ x = omega arith in
    ap (λ z. gcd_of r z) m ∙ odd_step_le y x r k (omega arith) h (omega arith) ∙ gcd_of_comm y x)
    (λ l.
    let m : min x y ≡ y = omega arith in
    ap (λ z. gcd_of r z) m ∙ odd_step_le x y r k l j (omega arith))
    (cases_lt x y)

-- ---- the common factors 2
pow-add : (m n : ℕ) → 2 ^ (m + n) ≡ 2 ^ m * 2 ^ n
pow-add m zero = let e : m + 0 ≡ m = omega arith in ap (λ k. 2 ^ k) e ∙ times_one (2 ^ m)
  where
    times_one : (x : ℕ) → x ≡ x * 1
    times_one x = omega arith
pow-add m (suc n) =
    let e : m + suc n ≡ suc (m + n) = omega arith in
    ap (λ k. 2 ^ k) e ∙ pow-suc 2 (m + n) ∙ ap (λ z. z * 2) (pow-add m n) ∙ regroup (2 ^ m) (2 ^ n) ∙ ap (λ z. 2 ^ m * z) (sym (pow-suc 2 n))
  where
    regroup : (x y : ℕ) → x * y * 2 ≡ x * (y * 2)
    regroup x y = omega arith

parts_le : (a b a' b' i j : ℕ) → i ≤ j → a' % 2 ≡ 1 → a' * 2 ^ i ≡ a → b' * 2 ^ j ≡ b → gcd_of a' b' * 2 ^ i ≡ gcd_of a b
parts_le a b a' b' i j l h e f =
    let p : 2 ^ j ≡ 2 ^ i * 2 ^ (j - i) = ap (λ n. 2 ^ n) (split i j l) ∙ pow-add i (j - i) in
    let left : 2 ^ i * a' ≡ a = mul_comm (2 ^ i) a' ∙ e in
    let right : 2 ^ i * (b' * 2 ^ (j - i)) ≡ b = regroup (2 ^ i) b' (2 ^ (j - i)) ∙ ap (λ z. b' * z) (sym p) ∙ f in
    mul_comm (gcd_of a' b') (2 ^ i)
    ∙ ap (λ z. 2 ^ i * z) (sym (odd_strip a' b' (j - i) _ h refl))
    ∙ sym (gcd_of-mul (2 ^ i) a' (b' * 2 ^ (j - i)) (pow_pos i))
    ∙ ap (λ z. gcd_of z (2 ^ i * (b' * 2 ^ (j - i)))) left ∙ ap (λ z. gcd_of a z) right
  where
    split : (i j : ℕ) → i ≤ j → j ≡ i + (j - i)
    split i j l = omega arith

    regroup : (x y z : ℕ) → x * (y * z) ≡ y * (x * z)
    regroup x y z = omega arith

pub gcd_from_parts : (a b a' b' i j g : ℕ) → a' % 2 ≡ 1 → b' % 2 ≡ 1 → a' * 2 ^ i ≡ a → b' * 2 ^ j ≡ b → g ≡ gcd_of a' b' → g * 2 ^ min i j ≡ gcd_of a b
gcd_from_parts a b a' b' i j g h k e f r =
    ⊎_elim
    (λ l.
    let m : min i j ≡ i = omega arith in
    ap (λ z. z * 2 ^ min i j) r ∙ ap (λ n. gcd_of a' b' * 2 ^ n) m ∙ parts_le a b a' b' i j (omega arith) h e f)
    (λ l.
    let m : min i j ≡ j = omega arith in
    ap (λ z. z * 2 ^ min i j) (r ∙ gcd_of_comm a' b') ∙ ap (λ n. gcd_of b' a' * 2 ^ n) m ∙ parts_le b a b' a' j i l k f e ∙ gcd_of_comm b a)
    (cases_lt i j)

-- the shifted number is the whole of it, since the divisor is no greater than the greater number
pub shifted_back : (a b n : ℕ) → a < 2 ^ 64 → b < 2 ^ 64 → n ≡ gcd_of a b → n % 2 ^ 64 ≡ gcd_of a b
shifted_back a b n h k e = let l = gcd_of-le a b in let m : n < 2 ^ 64 = omega arith in mod-eq_of_lt m ∙ e

-- ---- the same, as the code's numbers are known
pub odd_min : (x y m : ℕ) → x % 2 ≡ 1 → y % 2 ≡ 1 → m ≡ min x y → m % 2 ≡ 1
odd_min x y m h k e =
    ⊎_elim
    (λ l. let f : m ≡ x = omega arith in rw f h)
    (λ l. let f : m ≡ y = omega arith in rw f k)
    (cases_lt x y)

pub odd_step_at : (x y r k least most : ℕ) → x % 2 ≡ 1 → y % 2 ≡ 1 → least ≡ min x y → most ≡ max x y → r * 2 ^ k ≡ most - least → gcd_of r least ≡ gcd_of x y
odd_step_at x y r k least most h j e f g = ap (λ z. gcd_of r z) e ∙ odd_step x y r k h j (g ∙ ap (λ z. z - least) f ∙ ap (λ z. max x y - z) e)

pub same_end : (x y g : ℕ) → x ≡ y → gcd_of x y ≡ g → x ≡ g
same_end x y g e h = sym (gcd_of_self x) ∙ ap (λ z. gcd_of x z) e ∙ h

pub zero_left : (a b : ℕ) → a ≡ 0 → b ≡ gcd_of a b
zero_left a b e = sym (ap (λ z. gcd_of z b) e ∙ gcd_of_comm 0 b ∙ gcd_of-zero b)

pub zero_right : (a b : ℕ) → b ≡ 0 → a ≡ gcd_of a b
zero_right a b e = sym (ap (λ z. gcd_of a z) e ∙ gcd_of-zero a)

pub word_end : (a b a' b' i j g t : ℕ) → a < 2 ^ 64 → b < 2 ^ 64 → a' % 2 ≡ 1 → b' % 2 ≡ 1 → a' * 2 ^ i ≡ a → b' * 2 ^ j ≡ b → g ≡ gcd_of a' b' → t ≡ min i j → g * 2 ^ t % 2 ^ 64 ≡ gcd_of a b
word_end a b a' b' i j g t p q h k e f r s =
    shifted_back a b (g * 2 ^ t) p q (ap (λ n. g * 2 ^ n) s ∙ gcd_from_parts a b a' b' i j g h k e f r)
