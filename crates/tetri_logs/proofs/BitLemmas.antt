-- The lowest bit of a number, and the number without it.
use Rattle.std.proofs.Common.{◌≡◌, ◌+◌, ◌<◌, ◌≤◌, ◌^◌, ◌%◌, ◌/◌, ◌*◌, ◌-◌, ◌∙◌, ℕ, zero, suc, min, sym, ap, ap₂, subst, arith, ⊎_elim}
use Rattle.std.specs.Int.{bit_at}
use Rattle.std.proofs.lemmas.Bool.{cases_lt}
use Rattle.std.proofs.lemmas.Nat.Bits.{bit_at-trailing_zeros, bit_at-zero, bit_at_cat_high, bit_at_cat_low}
use Rattle.std.proofs.Math.Nat.{div-div-eq-div-mul, mul-div_cancel, pow-suc, pow-succ'}
use Rattle.std.proofs.lemmas.Nat.{pow-add, pow_pos}
use lib.Bits.{and_self, and_step, bit_and}
use lib.Count.{count_trailing_zeros, under}
use mir.Syntax.{w64}

-- the lowest bit is the one below which none is set
lowest_is : (x t : ℕ) → 0 < x → x < 2 ^ 64 → bit_at x t ≡ 1 → ((i : ℕ) → i < t → bit_at x i ≡ 0) → count_trailing_zeros 64 x ≡ t
lowest_is x t some small one none =
    let lowest = bit_at-trailing_zeros w64 x some small in
    let not_less : count_trailing_zeros 64 x < t → ⊥ = λ lt. omega (arith, none (count_trailing_zeros 64 x) lt, lowest.1) in
    let not_more : t < count_trailing_zeros 64 x → ⊥ = λ lt. omega (arith, lowest.2 t lt, one) in
    omega (arith, not_less, not_more)

-- that of a number shifted to the left
pub lowest_up : (m j : ℕ) → 0 < m → m < 2 ^ 64 → m * 2 ^ j < 2 ^ 64 → 0 < m * 2 ^ j → count_trailing_zeros 64 (m * 2 ^ j) ≡ j + count_trailing_zeros 64 m
lowest_up m j some small fits some_up =
    let t = count_trailing_zeros 64 m in
    let lowest = bit_at-trailing_zeros w64 m some small in
    let whole : m * 2 ^ j + 0 ≡ m * 2 ^ j = omega arith in
    let high = λ (i : ℕ) (le : j ≤ i). ap (λ x. bit_at x i) (sym whole) ∙ bit_at_cat_high m j 0 i (pow_pos j) le in
    let low = λ (i : ℕ) (lt : i < j). ap (λ x. bit_at x i) (sym whole) ∙ bit_at_cat_low m j 0 i lt ∙ bit_at-zero i in
    let there : j + t - j ≡ t = omega arith in
    lowest_is (m * 2 ^ j) (j + t) some_up fits
    (high (j + t) (omega arith) ∙ ap (bit_at m) there ∙ lowest.1)
    (λ i lt. ⊎_elim (λ (c : i < j). low i c) (λ (c : j ≤ i). high i c ∙ lowest.2 (i - j) (omega arith)) (cases_lt i j))

doubled : (q p z : ℕ) → z ≡ q * p → z * 2 + 0 ≡ q * (2 * p)
doubled q p z is = grind arith

-- a number without its lowest bit has those above it
abbrev IsWithout : ℕ → ℕ → Type 0
IsWithout x c = bit_and x (x - 1) ≡ x / 2 ^ suc c * 2 ^ suc c

without_even : (x t : ℕ) → x % 2 ≡ 0 → 0 < x → IsWithout (x / 2) t → IsWithout x (suc t)
without_even x t even some below =
    let half : (x - 1) / 2 ≡ x / 2 - 1 = omega arith in
    let low : min (x % 2) ((x - 1) % 2) ≡ 0 = omega arith in
    let same : x / 2 / 2 ^ suc t ≡ x / 2 ^ suc (suc t) = div-div-eq-div-mul x 2 (2 ^ suc t) ∙ ap (λ d. x / d) (sym (pow-succ' 2 (suc t))) in
    and_step x (x - 1)
    ∙ ap₂ (λ u v. u * 2 + v) (ap (bit_and (x / 2)) half) low
    ∙ doubled (x / 2 / 2 ^ suc t) (2 ^ suc t) _ below
    ∙ ap₂ (λ u v. u * v) same (sym (pow-succ' 2 (suc t)))

without_odd : (x : ℕ) → x % 2 ≡ 1 → IsWithout x 0
without_odd x odd =
    let half : (x - 1) / 2 ≡ x / 2 = omega arith in
    let low : min (x % 2) ((x - 1) % 2) ≡ 0 = omega arith in
    let whole : x / 2 * 2 + 0 ≡ x / 2 ^ 1 * 2 ^ 1 = omega arith in
    and_step x (x - 1) ∙ ap₂ (λ u v. u * 2 + v) (ap (bit_and (x / 2)) half ∙ and_self (x / 2)) low ∙ whole

without_lowest : (w x : ℕ) → 0 < x → x < 2 ^ w → IsWithout x (count_trailing_zeros w x)
unfolding count_trailing_zeros
without_lowest zero x some small = let no : ⊥ = omega arith in absurd no
without_lowest (suc w) x some small =
    let t = count_trailing_zeros w (x / 2) in
    ⊎_elim
    (λ (c : x % 2 < 1).
    let even : x % 2 ≡ 0 = omega arith in
    subst (λ r. IsWithout x (under r t)) (sym even) (without_even x t even some (without_lowest w (x / 2) (omega arith) (omega (arith, pow-suc 2 w)))))
    (λ (c : 1 ≤ x % 2).
    let odd : x % 2 ≡ 1 = omega arith in
    subst (λ r. IsWithout x (under r t)) (sym odd) (without_odd x odd))
    (cases_lt (x % 2) 1)

-- the same of one shifted to the left
pub without_lowest_up : (m j : ℕ) → 0 < m → m < 2 ^ 64 → m * 2 ^ j < 2 ^ 64 → 0 < m * 2 ^ j
    → bit_and (m * 2 ^ j) (m * 2 ^ j - 1) ≡ m / 2 ^ count_trailing_zeros 64 m / 2 * 2 ^ (j + count_trailing_zeros 64 m + 1)
without_lowest_up m j some small fits some_up =
    let x = m * 2 ^ j in
    let k = count_trailing_zeros 64 m in
    let place : suc (count_trailing_zeros 64 x) ≡ j + suc k = omega (arith, lowest_up m j some small fits some_up) in
    let up : j + suc k ≡ j + k + 1 = omega arith in
    let down : x / 2 ^ (j + suc k) ≡ m / 2 ^ k / 2 =
    ap (λ d. x / d) (pow-add 2 j (suc k))
    ∙ sym (div-div-eq-div-mul x (2 ^ j) (2 ^ suc k))
    ∙ ap (λ n. n / 2 ^ suc k) (mul-div_cancel m (pow_pos j))
    ∙ ap (λ d. m / d) (pow-suc 2 k)
    ∙ sym (div-div-eq-div-mul m (2 ^ k) 2) in
    without_lowest 64 x some_up fits
    ∙ ap (λ c. x / 2 ^ c * 2 ^ c) place
    ∙ ap₂ (λ u c. u * 2 ^ c) down up
