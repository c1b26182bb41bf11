-- The numbers of rows of short whole numbers, of their mirrors and of the rows that a pivot makes of them.
use Rattle.std.proofs.Common.{◌≡◌, ℕ, ◌+◌, ◌*◌, ◌^◌, ◌<◌, ◌≤◌, sym, ap, ◌∙◌, subst, arith, List, [], ◌∷◌, length, get_or, set, map, cond, ◌==◌, refl, Bool, true, false}
use Prim.Native.Nat.{zero, suc}
use Rattle.std.specs.Prelude.{All, unsigned_abs}
use Rattle.std.proofs.Math.Nat.{mul-le-mul_left, mul_comm}
use Rattle.std.proofs.lemmas.Int.{ints, unsigned_abs-mul}
use Rattle.std.proofs.lemmas.List.{get_or-map, length-map, length-set}
use Rattle.std.proofs.lemmas.List.Elements.{All-nil, All-cons, All-head, All-tail, All-set, All-map}
use lib.IntN.{ℤ, pos, negsuc, ◌+ℤ◌, ◌*ℤ◌, neg_ℤ}
use Rattle.tetri_algebra.specs.IntegerRing.{ℤ_ring}
use Rattle.tetri_algebra.specs.Integers.{abs-neg_ℤ, abs_positive}
use Rattle.tetri_algebra.specs.Rational.{ℚ, fraction, whole_ℚ}
use Rattle.tetri_algebra.specs.RationalRing.{◌+ℚ◌, ◌*ℚ◌, neg_ℚ, zero_ℚ, one_ℚ, sum_of_parts, product_of_parts, positive_product, num-whole_ℚ, den-whole_ℚ, num-neg_ℚ, den-neg_ℚ}
use Rattle.tetri_algebra.specs.RingSolver.{var, minus, ring, ◌⊗◌}
use Rattle.tetri_rows.specs.Rows.{meaning, plus_multiple, put_in, solved_for}
use Rattle.tetri_rows.specs.Small.{IsSmall, IsShort, IsDenominator}
use Rattle.tetri_rows.proofs.RowLaws.{fraction_le, solved_is, not_zero_number}
use Rattle.tetri_dictionary.specs.Mirrors.{mirror, one_at, variable_row, IsWidth, IsBounded}

-- below 2 ^ 31 in size
pub record IsShortNumber (p : ℚ) : Type 0 where
  pub num : unsigned_abs p.num < 2 ^ 31
  pub den : p.den < 2 ^ 31

-- ---- products and sums
product_le : (m n a b : ℕ) → m ≤ a → n ≤ b → m * n ≤ a * b
product_le m n a b h k =
    let p : m * n ≤ m * b = mul-le-mul_left m k in
    let q : b * m ≤ b * a = mul-le-mul_left b h in
    let e = mul_comm b m in
    let f = mul_comm b a in
    omega arith

abs_product_le : (x y : ℤ) (a b : ℕ) → unsigned_abs x ≤ a → unsigned_abs y ≤ b → unsigned_abs (x *ℤ y) ≤ a * b
abs_product_le x y a b h k = rw (unsigned_abs-mul x y) (product_le (unsigned_abs x) (unsigned_abs y) a b h k)

abs_sum_le : (x y : ℤ) (a b : ℕ) → unsigned_abs x ≤ a → unsigned_abs y ≤ b → unsigned_abs (x +ℤ y) ≤ a + b
abs_sum_le x y a b h k = omega (arith, ints)

-- ---- one number
pub short_number : (n : ℤ) (d : ℕ) → 0 < d → IsShort n → d < 2 ^ 31 → IsShortNumber (fraction n d)
short_number n d h k l = let e = fraction_le n d h in record { num = omega (arith, e.0, k); den = omega (arith, e.1, l) }

pub short_whole : (n : ℤ) → IsShort n → IsShortNumber (whole_ℚ n)
short_whole n h = record { num = rw (num-whole_ℚ n) h; den = rw (den-whole_ℚ n) (omega arith) }

pub short_zero : IsShortNumber zero_ℚ
short_zero = short_whole (pos 0) (omega arith)

short_one : IsShortNumber one_ℚ
short_one = short_whole (pos 1) (omega arith)

pub small_of_short : (p : ℚ) → IsShortNumber p → IsSmall p
small_of_short p h = record { num = omega (arith, h.num); den = omega (arith, h.den) }

pub bounded_of_short : (p : ℚ) → IsShortNumber p → IsBounded p
bounded_of_short p h = record { num = omega (arith, h.num); den = omega (arith, h.den) }

short_negative : (p : ℚ) → IsShortNumber p → IsShortNumber (neg_ℚ p)
short_negative p h = record { num = rw (num-neg_ℚ p, abs-neg_ℤ p.num) h.num; den = rw (den-neg_ℚ p) h.den }

-- the width less a short number
small_difference : (w : ℤ) (c : ℚ) → IsWidth w → IsShortNumber c → IsSmall (whole_ℚ w +ℚ neg_ℚ c)
unfolding whole_ℚ neg_ℚ
small_difference w c h k =
    let n = w *ℤ pos c.den +ℤ neg_ℤ c.num *ℤ pos 1 in
    let f = fraction_le n (1 * c.den) (positive_product 1 c.den (omega arith) c.positive) in
    let x = abs_product_le w (pos c.den) 1024 (2 ^ 31) (width_below w h) (above c.den k.den) in
    let y = abs_product_le (neg_ℤ c.num) (pos 1) (2 ^ 31) 1 (negative_below c.num k.num) (omega arith) in
    let z = abs_sum_le (w *ℤ pos c.den) (neg_ℤ c.num *ℤ pos 1) (1024 * 2 ^ 31) (2 ^ 31 * 1) x y in
    subst IsSmall (sym (sum_of_parts (whole_ℚ w) (neg_ℚ c))) (record { num = omega (arith, f.0, z); den = omega (arith, f.1, k.den) })
  where
    width_below : (w : ℤ) → IsWidth w → unsigned_abs w ≤ 1024
    width_below w h = let a = h.least in let b = h.most in omega (arith, ints, a, b)

    above : (d : ℕ) → d < 2 ^ 31 → unsigned_abs (pos d) ≤ 2 ^ 31
    above d l = omega arith

    negative_below : (x : ℤ) → unsigned_abs x < 2 ^ 31 → unsigned_abs (neg_ℤ x) ≤ 2 ^ 31
    negative_below x l = let e = abs-neg_ℤ x in omega (arith, e, l)

-- a short number and the product of two
bounded_sum : (x a y : ℚ) → IsShortNumber x → IsShortNumber a → IsShortNumber y → IsBounded (x +ℚ a *ℚ y)
bounded_sum x a y hx ha hy =
    let z = a *ℚ y in
    let f = fraction_le (a.num *ℤ y.num) (a.den * y.den) (positive_product _ _ a.positive y.positive) in
    let fn = abs_product_le a.num y.num (2 ^ 31) (2 ^ 31) (at_most _ ha.num) (at_most _ hy.num) in
    let fd = product_le a.den y.den (2 ^ 31) (2 ^ 31) (at_most _ ha.den) (at_most _ hy.den) in
    let p = product_of_parts a y in
    let zn : unsigned_abs z.num ≤ 2 ^ 62 = rw p (omega (arith, f.0, fn)) in
    let zd : z.den ≤ 2 ^ 62 = rw p (omega (arith, f.1, fd)) in
    with_product x z hx zn zd
  where
    at_most : (m : ℕ) → m < 2 ^ 31 → m ≤ 2 ^ 31
    at_most m l = omega arith

    with_product : (x z : ℚ) → IsShortNumber x → unsigned_abs z.num ≤ 2 ^ 62 → z.den ≤ 2 ^ 62 → IsBounded (x +ℚ z)
    with_product x z hx zn zd =
        let n = x.num *ℤ pos z.den +ℤ z.num *ℤ pos x.den in
        let f = fraction_le n (x.den * z.den) (positive_product _ _ x.positive z.positive) in
        let a = abs_product_le x.num (pos z.den) (2 ^ 31) (2 ^ 62) (at_most _ hx.num) zd in
        let b = abs_product_le z.num (pos x.den) (2 ^ 62) (2 ^ 31) zn (at_most _ hx.den) in
        let c = abs_sum_le (x.num *ℤ pos z.den) (z.num *ℤ pos x.den) (2 ^ 31 * 2 ^ 62) (2 ^ 62 * 2 ^ 31) a b in
        let d = product_le x.den z.den (2 ^ 31) (2 ^ 62) (at_most _ hx.den) zd in
        subst IsBounded (sym (sum_of_parts x z)) (record { num = omega (arith, f.0, c); den = omega (arith, f.1, d) })

-- ---- rows
pub short_numbers : (d : ℤ) (ns : List ℤ) → IsDenominator d → All IsShort ns → All IsShortNumber (meaning d ns)
short_numbers d ns h s = All-map IsShortNumber (λ n. fraction n (unsigned_abs d)) ns (λ k e l. short_number (get_or ns k e) (unsigned_abs d) (abs_positive d h.positive) (s k e l) h.short)

pub small_row : (xs : List ℚ) → All IsShortNumber xs → All IsSmall xs
small_row xs h k d l = small_of_short (get_or xs k d) (h k d l)

pub bounded_row : (xs : List ℚ) → All IsShortNumber xs → All IsBounded xs
bounded_row xs h k d l = bounded_of_short (get_or xs k d) (h k d l)

pub small_mirror : (w : ℤ) (xs : List ℚ) → IsWidth w → All IsShortNumber xs → All IsSmall (mirror w xs)
small_mirror w [] h s = All-nil IsSmall
small_mirror w (c ∷ more) h s =
    All-cons IsSmall _ _ (small_difference w c h (All-head IsShortNumber c more s))
    (All-map IsSmall neg_ℚ more (λ k d l. small_of_short _ (short_negative (get_or more k d) (All-tail IsShortNumber c more s k d l))))

short_ones : (p k n : ℕ) → All IsShortNumber (one_at p k n)
short_ones p k zero = All-nil IsShortNumber
short_ones p k (suc n) = All-cons IsShortNumber _ _ (by_test (p == k)) (short_ones p (k + 1) n)
  where
    by_test : (t : Bool) → IsShortNumber (cond t one_ℚ zero_ℚ)
    by_test true = short_one
    by_test false = short_zero

pub short_variable : (n p : ℕ) → All IsShortNumber (variable_row n p)
short_variable n p = All-cons IsShortNumber _ _ short_zero (short_ones p 0 n)

-- ---- the rows of a pivot
bounded_multiple : (a : ℚ) (xs ys : List ℚ) → IsShortNumber a → All IsShortNumber xs → All IsShortNumber ys → All IsBounded (plus_multiple a xs ys)
bounded_multiple a [] ys ha hx hy = All-nil IsBounded
bounded_multiple a (x ∷ xs) [] ha hx hy = bounded_row (x ∷ xs) hx
bounded_multiple a (x ∷ xs) (y ∷ ys) ha hx hy =
    All-cons IsBounded _ _ (bounded_sum x a y (All-head IsShortNumber x xs hx) ha (All-head IsShortNumber y ys hy))
    (bounded_multiple a xs ys ha (All-tail IsShortNumber x xs hx) (All-tail IsShortNumber y ys hy))

pub bounded_put_in : (k : ℕ) (ys xs : List ℚ) → k < length xs → All IsShortNumber ys → All IsShortNumber xs → All IsBounded (put_in k ys xs)
bounded_put_in k ys xs l hy hx =
    bounded_multiple (get_or xs k zero_ℚ) (set xs k zero_ℚ) ys (hx k zero_ℚ l) (All-set IsShortNumber xs k zero_ℚ short_zero hx) hy

-- a number with the sign of a solved row's, over the pivot's size
abbrev signed_by : ℤ → ℤ → ℤ
signed_by (pos k) x = neg_ℤ x
signed_by (negsuc k) x = x

signed_size : (a x : ℤ) → IsShort x → IsShort (signed_by a x)
signed_size (pos k) x h = let e = abs-neg_ℤ x in omega (arith, e, h)
signed_size (negsuc k) x h = h

signed_value : (a x : ℤ) → signed_by a x *ℤ a ≡ neg_ℤ x *ℤ pos (unsigned_abs a)
signed_value (pos k) x = ap (λ z. neg_ℤ x *ℤ z) refl
signed_value (negsuc k) x = ring ℤ_ring (x ∷ pos (suc k) ∷ []) (var 0 ⊗ minus (var 1)) (minus (var 0) ⊗ var 1) refl

-- a row of short whole numbers, solved
pub short_solved : (k : ℕ) (d : ℤ) (ns : List ℤ) → IsDenominator d → All IsShort ns → k < length ns → ((get_or (meaning d ns) k zero_ℚ).num ≡ pos 0 → ⊥) → All IsShortNumber (solved_for k (meaning d ns))
short_solved k d ns h s l n =
    let a = get_or ns k (pos 0) in
    let m = neg_ℤ (pos (unsigned_abs d)) in
    let ms = set ns k m in
    let zs = map (signed_by a) ms in
    let an = not_zero_number d ns k h l n in
    let pa = above a an in
    let sm : IsShort m = let e = abs-neg_ℤ (pos (unsigned_abs d)) in omega (arith, e, h.short) in
    let t = All-set IsShort ns k m sm s in
    let e = solved_is k a (unsigned_abs d) (unsigned_abs a) ns zs (abs_positive d h.positive) pa l refl an (length-map ms (signed_by a) ∙ length-set ns k m)
    (λ q o. let o' : q < length ms = subst (λ z. q < z) (sym (length-set ns k m)) o in ap (λ z. z *ℤ a) (get_or-map (signed_by a) ms q (pos 0) (pos 0) o') ∙ signed_value a (get_or ms q (pos 0))) in
    subst (λ xs. All IsShortNumber xs) (sym e)
    (All-map IsShortNumber (λ z. fraction z (unsigned_abs a)) zs (All-map (λ x. IsShortNumber (fraction x (unsigned_abs a))) (signed_by a) ms (λ q o b. short_number (signed_by a (get_or ms q o)) (unsigned_abs a) pa (signed_size a (get_or ms q o) (t q o b)) (s k (pos 0) l))))
  where
    above : (a : ℤ) → (a ≡ pos 0 → ⊥) → 0 < unsigned_abs a
    above (pos zero) n = absurd (n refl)
    above (pos (suc k)) n = omega arith
    above (negsuc k) n = omega arith
