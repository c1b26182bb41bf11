-- Numbers of a row as the code passes them.
use Rattle.std.proofs.Common.{◌≡◌, ℕ, ◌+◌, ◌*◌, ◌/◌, ◌^◌, ◌<◌, ◌≤◌, refl, sym, ap, ◌∙◌, subst, arith, List, [], ◌∷◌, length, get_or, set, ⊎_elim}
use Prim.Native.Nat.{zero, suc, ◌∣◌}
use Rattle.std.specs.Prelude.{unsigned_abs, int_div, FitsSigned, All, ◌<ℤ◌, ◌≤ℤ◌}
use Rattle.std.specs.Int.{int_max}
use Rattle.std.proofs.Math.Nat.{le_of_dvd, pos_of_dvd_of_pos, mul-le-mul_left, mul_comm, div-le_self, div-add-mod, mod-lt}
use Rattle.std.proofs.lemmas.Bool.{cases_lt}
use Rattle.std.proofs.lemmas.Int.{ints, to_z-of_z, fits_signed_from_abs, unsigned_abs-mul}
use Rattle.std.proofs.lemmas.List.{get_or-set_same, get_or-set_other, length-set, get_or_default, set-set, set-get_or}
use lib.IntN.{ℤ, pos, negsuc, ◌+ℤ◌, ◌*ℤ◌, ◌-ℤ◌, zero-*ℤ, neg_ℤ}
use lib.Signed.{lt_z, le_z}
use Rattle.std.proofs.Common.{true, false}
use mir.Val.{to_z, of_z}
use mir.Syntax.{w64, w128}
use Rattle.tetri_algebra.specs.Gcd.{gcd_of}
use Rattle.tetri_algebra.specs.Coprime.{IsGcd-gcd_of}
use Rattle.tetri_algebra.specs.Integers.{abs_positive, mul_lt_cancel, abs-neg_ℤ, abs_of_positive}
use Rattle.tetri_algebra.specs.RingSolver.{var, num, minus, ring, ◌⊕◌, ◌⊗◌}
use Rattle.tetri_algebra.specs.IntegerRing.{ℤ_ring}
use Rattle.tetri_algebra.specs.Quotients.{abs-int_div, int_div-mul}
use Rattle.tetri_num.specs.Forms.{common}
use Rattle.tetri_rows.specs.Small.{IsShort, IsDenominator}
use Rattle.tetri_rows.specs.Rows.{combined, combined_at}

pub word : (z : ℤ) → unsigned_abs z < 2 ^ 63 → to_z w64 (of_z w64 z) ≡ z
word z h = to_z-of_z w64 z (fits_signed_from_abs w64 z h)

pub short_word : (z : ℤ) → IsShort z → to_z w64 (of_z w64 z) ≡ z
short_word z h = word z (omega arith)

pub wide_word : (z : ℤ) → unsigned_abs z < 2 ^ 63 → to_z w128 (of_z w128 z) ≡ z
wide_word z h = to_z-of_z w128 z (fits_signed_from_abs w128 z (omega arith))

-- ---- the combined number
below_word : (m n : ℕ) → m < 2 ^ 31 → n < 2 ^ 31 → m * n < 2 ^ 62
below_word m n h k =
    let a : n + 1 ≤ 2 ^ 31 = omega arith in
    let b : m + 1 ≤ 2 ^ 31 = omega arith in
    let p : (m + 1) * (n + 1) ≤ (m + 1) * 2 ^ 31 = mul-le-mul_left (m + 1) a in
    omega (arith, p, b)

pub product_below : (x y : ℤ) → IsShort x → IsShort y → unsigned_abs (x *ℤ y) < 2 ^ 62
product_below x y h k = rw (unsigned_abs-mul x y) (below_word (unsigned_abs x) (unsigned_abs y) h k)

pub product_word : (x y x' y' : ℤ) → x' ≡ x → y' ≡ y → IsShort x → IsShort y → to_z w64 (of_z w64 (x' *ℤ y')) ≡ x *ℤ y
product_word x y x' y' e f h k =
    ap (λ z. to_z w64 (of_z w64 (z *ℤ y'))) e ∙ ap (λ z. to_z w64 (of_z w64 (x *ℤ z))) f ∙ word (x *ℤ y) (below (unsigned_abs (x *ℤ y)) (product_below x y h k))
  where
    below : (n : ℕ) → n < 2 ^ 62 → n < 2 ^ 63
    below n h = omega arith

sum_below : (x y : ℤ) → unsigned_abs x < 2 ^ 62 → unsigned_abs y < 2 ^ 62 → unsigned_abs (x +ℤ y) < 2 ^ 63
sum_below x y h k = let e : unsigned_abs (x +ℤ y) ≤ unsigned_abs x + unsigned_abs y = omega (arith, ints) in omega (arith, e)

pub combined_below : (d f x y : ℤ) → IsShort d → IsShort f → IsShort x → IsShort y → unsigned_abs (combined d f x y) < 2 ^ 63
combined_below d f x y hd hf hx hy = sum_below (x *ℤ d) (f *ℤ y) (product_below x d hx hd) (product_below f y hf hy)

pub combined_sum : (d f x y : ℤ) → IsShort d → IsShort f → IsShort x → IsShort y →
    to_z w64 (of_z w64 (to_z w64 (of_z w64 x) *ℤ to_z w64 (of_z w64 d))) +ℤ to_z w64 (of_z w64 (to_z w64 (of_z w64 f) *ℤ to_z w64 (of_z w64 y))) ≡ combined d f x y
combined_sum d f x y hd hf hx hy =
    let p = product_word x d (to_z w64 (of_z w64 x)) (to_z w64 (of_z w64 d)) (short_word x hx) (short_word d hd) hx hd in
    let q = product_word f y (to_z w64 (of_z w64 f)) (to_z w64 (of_z w64 y)) (short_word f hf) (short_word y hy) hf hy in
    ap (λ z. z +ℤ to_z w64 (of_z w64 (to_z w64 (of_z w64 f) *ℤ to_z w64 (of_z w64 y)))) p ∙ ap (λ z. x *ℤ d +ℤ z) q

pub fits_along : (z z' : ℤ) → z' ≡ z → unsigned_abs z < 2 ^ 63 → FitsSigned w64 z'
fits_along z z' e h = fits_signed_from_abs w64 z' (subst (λ w. unsigned_abs w < 2 ^ 63) (sym e) h)

pub word_along : (z z' : ℤ) → z' ≡ z → unsigned_abs z < 2 ^ 63 → to_z w64 (of_z w64 z') ≡ z
word_along z z' e h = ap (λ w. to_z w64 (of_z w64 w)) e ∙ word z h

pub below_along : (z z' : ℤ) → z' ≡ z → unsigned_abs z < 2 ^ 63 → unsigned_abs z' < 2 ^ 63
below_along z z' e h = subst (λ w. unsigned_abs w < 2 ^ 63) (sym e) h

-- the number at a place, of two rows as they are read
pub combined_read : (d f : ℤ) (xs ys : List ℤ) (k : ℕ) (x y : ℤ) → x ≡ get_or xs k (pos 0) → y ≡ get_or ys k (pos 0) → combined d f x y ≡ combined_at d f xs ys k
combined_read d f xs ys k x y e g = ap (λ z. combined d f z y) e ∙ ap (λ z. combined d f (get_or xs k (pos 0)) z) g

pub at_word : (d f : ℤ) (xs ys : List ℤ) (k : ℕ) (d' f' : ℤ) → d' ≡ d → f' ≡ f → combined_at d' f' xs ys k ≡ combined_at d f xs ys k
at_word d f xs ys k d' f' e g = ap (λ z. combined_at z f' xs ys k) e ∙ ap (λ z. combined_at d z xs ys k) g

-- ---- what holds of the first k numbers and of the next
pub up_to_next : (P : ℤ → Type 0) (at : ℕ → ℤ) (k : ℕ) (new : ℤ) → ((q : ℕ) → q < k → P (at q)) → new ≡ at k → P new → (q : ℕ) → q < k + 1 → P (at q)
up_to_next P at k new h e p q l =
    ⊎_elim (λ m. h q m) (λ m. let s : q ≡ k = omega arith in subst (λ n. P (at n)) (sym s) (subst P e p)) (cases_lt q k)

-- ---- the greatest size
pub max_at_least : (a b m : ℤ) → m ≡ int_max a b → pos 0 ≤ℤ a → (pos 0 ≤ℤ m) × (unsigned_abs a ≤ unsigned_abs m)
max_at_least a b m e h = (grind (arith, ints), grind (arith, ints))

pub max_at_least_right : (a b m : ℤ) → m ≡ int_max a b → pos 0 ≤ℤ a → pos 0 ≤ℤ b → unsigned_abs b ≤ unsigned_abs m
max_at_least_right a b m e h k = grind (arith, ints)

-- ---- a common divisor
pub gcd_step : (r new g new' g' : ℤ) → new' ≡ new → g' ≡ g → r ≡ common new' g' → pos 0 <ℤ g → unsigned_abs g < 2 ^ 63 →
    (pos 0 <ℤ r) × (unsigned_abs r ∣ unsigned_abs g) × (unsigned_abs r ∣ unsigned_abs new) × (unsigned_abs r < 2 ^ 63)
gcd_step r new g new' g' e f h p l =
    let i = IsGcd-gcd_of (unsigned_abs new) (unsigned_abs g) in
    let s : r ≡ common new g = h ∙ ap (λ z. common z g') e ∙ ap (λ z. common new z) f in
    let q = pos_of_dvd_of_pos i.1 (abs_positive g p) in
    let m = le_of_dvd (abs_positive g p) i.1 in
    (above r (gcd_of (unsigned_abs new) (unsigned_abs g)) s q, subst (λ z. unsigned_abs z ∣ unsigned_abs g) (sym s) i.1, subst (λ z. unsigned_abs z ∣ unsigned_abs new) (sym s) i.0, below r (gcd_of (unsigned_abs new) (unsigned_abs g)) (unsigned_abs g) s m l)
  where
    above : (r : ℤ) (n : ℕ) → r ≡ pos n → 0 < n → pos 0 <ℤ r
    above r n e h = rw e (omega (arith, ints))

    below : (r : ℤ) (n m : ℕ) → r ≡ pos n → n ≤ m → m < 2 ^ 63 → unsigned_abs r < 2 ^ 63
    below r n m e h k = rw e (omega arith)

-- ---- a quotient by a divisor
pub divided_is : (n g z : ℤ) → pos 0 <ℤ g → unsigned_abs g ∣ unsigned_abs n → z ≡ int_div n g → (z *ℤ g ≡ n) × (unsigned_abs z * unsigned_abs g ≡ unsigned_abs n)
divided_is n g z h d e =
    let s : g ≡ pos (unsigned_abs g) = omega (arith, ints) in
    let m : z *ℤ g ≡ n = ap (λ w. w *ℤ g) (e ∙ ap (λ w. int_div n w) s) ∙ ap (λ w. int_div n (pos (unsigned_abs g)) *ℤ w) s ∙ int_div-mul n (unsigned_abs g) d in
    (m, sym (unsigned_abs-mul z g) ∙ ap unsigned_abs m)

pub divided_word : (n g n' g' : ℤ) → n' ≡ n → g' ≡ g → unsigned_abs n < 2 ^ 63 → pos 0 <ℤ g → unsigned_abs g ∣ unsigned_abs n →
    (to_z w64 (of_z w64 (int_div n' g')) *ℤ g ≡ n) × (unsigned_abs (to_z w64 (of_z w64 (int_div n' g'))) * unsigned_abs g ≡ unsigned_abs n)
divided_word n g n' g' e f l h d =
    let s : g ≡ pos (unsigned_abs g) = is_abs g h in
    let b : unsigned_abs (int_div n g) ≤ unsigned_abs n = rw s (rw (abs-int_div n (unsigned_abs g)) (div-le_self (unsigned_abs n) (unsigned_abs g))) in
    let w : to_z w64 (of_z w64 (int_div n' g')) ≡ int_div n g = ap (λ z. to_z w64 (of_z w64 (int_div z g'))) e ∙ ap (λ z. to_z w64 (of_z w64 (int_div n z))) f ∙ word (int_div n g) (under _ _ b l) in
    divided_is n g _ h d w
  where
    is_abs : (g : ℤ) → pos 0 <ℤ g → g ≡ pos (unsigned_abs g)
    is_abs g h = omega (arith, ints)

    under : (m n : ℕ) → m ≤ n → n < 2 ^ 63 → m < 2 ^ 63
    under m n h k = omega arith

-- the greatest size, one number further
pub greatest_next : (D F : ℤ) (xs ys : List ℤ) (k : ℕ) (most new new' size size' r r' : ℤ) → ((q : ℕ) → q < k → unsigned_abs (combined_at D F xs ys q) ≤ unsigned_abs most) → pos 0 ≤ℤ most → new ≡ combined_at D F xs ys k →
    new' ≡ new → size ≡ pos (unsigned_abs new') → size' ≡ size → r ≡ int_max most size' → r' ≡ r →
    (pos 0 ≤ℤ r') × (unsigned_abs most ≤ unsigned_abs r') × ((q : ℕ) → q < k + 1 → unsigned_abs (combined_at D F xs ys q) ≤ unsigned_abs r')
greatest_next D F xs ys k most new new' size size' r r' h p e ne se se' re re' =
    let s : size' ≡ pos (unsigned_abs new) = se' ∙ se ∙ ap (λ z. pos (unsigned_abs z)) ne in
    let m : r' ≡ int_max most (pos (unsigned_abs new)) = re' ∙ re ∙ ap (λ z. int_max most z) s in
    let a = max_at_least most (pos (unsigned_abs new)) r' m p in
    let b = max_at_least_right most (pos (unsigned_abs new)) r' m p (nonnegative (unsigned_abs new)) in
    (a.0, a.1, up_to_next (λ z. unsigned_abs z ≤ unsigned_abs r') (λ q. combined_at D F xs ys q) k new (λ q l. weaken _ _ _ (h q l) a.1) e b)
  where
    weaken : (x y z : ℕ) → x ≤ y → y ≤ z → x ≤ z
    weaken x y z h k = omega arith

    nonnegative : (n : ℕ) → pos 0 ≤ℤ pos n
    nonnegative n = omega (arith, ints)

pub short_under : (z : ℤ) → IsShort z → unsigned_abs z < 2 ^ 63
short_under z h = omega arith

pub wide_of_word : (z : ℤ) → unsigned_abs z < 2 ^ 63 → to_z w128 (of_z w128 (to_z w64 (of_z w64 z))) ≡ z
wide_of_word z h = ap (λ w. to_z w128 (of_z w128 w)) (word z h) ∙ wide_word z h

-- ---- the new row up to the next number
pub write_next : (D F G : ℤ) (old row ys : List ℤ) (k : ℕ) (z z' new : ℤ) → k < length row → ((q : ℕ) → q < k → get_or row q (pos 0) *ℤ G ≡ combined_at D F old ys q) →
    ((q : ℕ) → k ≤ q → q < length row → get_or row q (pos 0) ≡ get_or old q (pos 0)) → z' ≡ z → z *ℤ G ≡ new → new ≡ combined_at D F old ys k →
    ((q : ℕ) → q < k + 1 → get_or (set row k z') q (pos 0) *ℤ G ≡ combined_at D F old ys q) ×
    ((q : ℕ) → k + 1 ≤ q → q < length (set row k z') → get_or (set row k z') q (pos 0) ≡ get_or old q (pos 0))
write_next D F G old row ys k z z' new h front rest e m n = (
  λ q l. ⊎_elim
      (λ b. ap (λ w. w *ℤ G) (get_or-set_other row k q z' (pos 0) (λ s. apart k q s b)) ∙ front q b)
      (λ b. let s : q ≡ k = omega arith in
      ap (λ j. get_or (set row k z') j (pos 0) *ℤ G) s ∙ ap (λ w. w *ℤ G) (get_or-set_same row k z' (pos 0) h ∙ e) ∙ m ∙ n ∙ ap (λ j. combined_at D F old ys j) (sym s))
      (cases_lt q k),
  λ q l b. get_or-set_other row k q z' (pos 0) (λ s. past k q s l) ∙ rest q (omega arith) (omega (arith, length-set row k z')),
)
  where
    apart : (k q : ℕ) → q ≡ k → q < k → ⊥
    apart k q s b = omega arith

    past : (k q : ℕ) → q ≡ k → k + 1 ≤ q → ⊥
    past k q s b = omega arith

-- a number that was read from a row whose rest is as it was
pub read_rest : (old row : List ℤ) (k : ℕ) → k < length row → ((q : ℕ) → k ≤ q → q < length row → get_or row q (pos 0) ≡ get_or old q (pos 0)) → IsShort (get_or old k (pos 0)) →
    to_z w64 (of_z w64 (get_or row k (pos 0))) ≡ get_or old k (pos 0)
read_rest old row k h rest s = ap (λ z. to_z w64 (of_z w64 z)) (rest k (omega arith) h) ∙ short_word (get_or old k (pos 0)) s

pub divides_word : (g g' n n' : ℤ) → g' ≡ g → n' ≡ n → unsigned_abs g ∣ unsigned_abs n → unsigned_abs g' ∣ unsigned_abs n'
divides_word g g' n n' e f h = subst (λ z. unsigned_abs z ∣ unsigned_abs n') (sym e) (subst (λ z. unsigned_abs g ∣ unsigned_abs z) (sym f) h)

pub product_fits : (x y : ℤ) → IsShort x → IsShort y → unsigned_abs (x *ℤ y) < 2 ^ 63
product_fits x y h k = under _ (product_below x y h k)
  where
    under : (n : ℕ) → n < 2 ^ 62 → n < 2 ^ 63
    under n h = omega arith

pub product_fits_along : (x y x' y' : ℤ) → x' ≡ x → y' ≡ y → IsShort x → IsShort y → FitsSigned w64 (x' *ℤ y')
product_fits_along x y x' y' e f h k = fits_along (x *ℤ y) (x' *ℤ y') (ap (λ z. z *ℤ y') e ∙ ap (λ z. x *ℤ z) f) (product_fits x y h k)

-- a quotient below a bound
pub quotient_short : (n g : ℤ) → pos 0 ≤ℤ n → pos 0 <ℤ g → int_div n g <ℤ pos (2 ^ 31) → unsigned_abs n < 2 ^ 31 * unsigned_abs g
quotient_short (negsuc n) g h p l = absurd (omega (arith, ints))
quotient_short (pos n) (negsuc g) h p l = absurd (omega (arith, ints))
quotient_short (pos n) (pos g) h p l =
    let a : 0 < g = omega (arith, ints) in
    let b : n / g + 1 ≤ 2 ^ 31 = omega (arith, ints) in
    let e = div-add-mod n g in
    let m = mod-lt n a in
    let q : g * (n / g + 1) ≤ g * 2 ^ 31 = mul-le-mul_left g b in
    omega (arith, e, m, q)

-- a number of the new row is short
pub short_from_size : (z g most : ℕ) → z * g ≤ most → most < 2 ^ 31 * g → z < 2 ^ 31
short_from_size z g most h k = ⊎_elim (λ l. l) (λ l. let q : g * 2 ^ 31 ≤ g * z = mul-le-mul_left g l in absurd (omega (arith, q, mul_comm g z))) (cases_lt z (2 ^ 31))

pub new_short : (zs : List ℤ) (n : ℕ) (at : ℕ → ℤ) (G most : ℤ) → length zs ≤ n → ((q : ℕ) → q < n → get_or zs q (pos 0) *ℤ G ≡ at q) → ((q : ℕ) → q < n → unsigned_abs (at q) ≤ unsigned_abs most) →
    unsigned_abs most < 2 ^ 31 * unsigned_abs G → All IsShort zs
new_short zs n at G most l e h s k d m =
    let b : k < n = omega arith in
    let z : unsigned_abs (get_or zs k (pos 0)) * unsigned_abs G ≡ unsigned_abs (at k) = sym (unsigned_abs-mul (get_or zs k (pos 0)) G) ∙ ap unsigned_abs (e k b) in
    let t : unsigned_abs (get_or zs k (pos 0)) < 2 ^ 31 = short_from_size _ (unsigned_abs G) (unsigned_abs most) (along _ _ _ z (h k b)) s in
    subst IsShort (get_or_default zs k (pos 0) d m) t
  where
    along : (x y z : ℕ) → x ≡ y → y ≤ z → x ≤ z
    along x y z e h = omega arith

-- the new denominator
pub new_denominator : (r r' g g' u u' most most' : ℤ) → r' ≡ r → g' ≡ g → u' ≡ u → most' ≡ most → pos 0 <ℤ g → pos 0 <ℤ u → r *ℤ g' ≡ u' → unsigned_abs u' ≤ unsigned_abs most → unsigned_abs most' < 2 ^ 31 * unsigned_abs g' →
    IsDenominator r'
new_denominator r r' g g' u u' most most' er eg eu em pg pu e h s =
    let m : r *ℤ g ≡ u = ap (λ z. r *ℤ z) (sym eg) ∙ e ∙ eu in
    let a : unsigned_abs r * unsigned_abs g' ≡ unsigned_abs u' = sym (unsigned_abs-mul r g') ∙ ap unsigned_abs e in
    let t : unsigned_abs r < 2 ^ 31 = short_from_size (unsigned_abs r) (unsigned_abs g') (unsigned_abs most) (along _ _ _ a h) (subst (λ z. unsigned_abs z < 2 ^ 31 * unsigned_abs g') em s) in
    record { positive = subst (λ z. pos 0 <ℤ z) (sym er) (mul_lt_cancel g (pos 0) r pg (below (pos 0 *ℤ g) (r *ℤ g) u (zero-*ℤ g) m pu)); short = subst IsShort (sym er) t }
  where
    along : (x y z : ℕ) → x ≡ y → y ≤ z → x ≤ z
    along x y z e h = omega arith

    below : (a b u : ℤ) → a ≡ pos 0 → b ≡ u → pos 0 <ℤ u → a <ℤ b
    below a b u e f h = rw (e, f) h

-- a number put back
pub put_back : (xs : List ℤ) (k : ℕ) (z z' : ℤ) → z' ≡ get_or xs k (pos 0) → set (set xs k z) k z' ≡ xs
put_back xs k z z' e = set-set xs k z z' ∙ ap (λ w. set xs k w) e ∙ set-get_or xs k (pos 0)

-- ---- a row that is written in place: what holds of the first k numbers, and of the next
pub set_next : (P : ℕ → ℤ → Type 0) (old row : List ℤ) (k : ℕ) (z : ℤ) → k < length row → ((q : ℕ) → q < k → P q (get_or row q (pos 0))) →
    ((q : ℕ) → k ≤ q → q < length row → get_or row q (pos 0) ≡ get_or old q (pos 0)) → P k z →
    ((q : ℕ) → q < k + 1 → P q (get_or (set row k z) q (pos 0))) ×
    ((q : ℕ) → k + 1 ≤ q → q < length (set row k z) → get_or (set row k z) q (pos 0) ≡ get_or old q (pos 0))
set_next P old row k z h front rest p = (
  λ q l. ⊎_elim
      (λ b. subst (λ w. P q w) (sym (get_or-set_other row k q z (pos 0) (λ s. apart k q s b))) (front q b))
      (λ b. let s : q ≡ k = omega arith in
      subst (λ j. P j (get_or (set row k z) j (pos 0))) (sym s) (subst (λ w. P k w) (sym (get_or-set_same row k z (pos 0) h)) p))
      (cases_lt q k),
  λ q l b. get_or-set_other row k q z (pos 0) (λ s. past k q s l) ∙ rest q (omega arith) (omega (arith, length-set row k z)),
)
  where
    apart : (k q : ℕ) → q ≡ k → q < k → ⊥
    apart k q s b = omega arith

    past : (k q : ℕ) → q ≡ k → k + 1 ≤ q → ⊥
    past k q s b = omega arith

pub neg_fits : (z z' : ℤ) → z' ≡ z → IsShort z → FitsSigned w64 (neg_ℤ z')
neg_fits z z' e h = fits_signed_from_abs w64 (neg_ℤ z') (rw (ap neg_ℤ e) (rw (abs-neg_ℤ z) (omega arith)))

pub neg_word : (z z' : ℤ) → z' ≡ z → IsShort z → to_z w64 (of_z w64 (pos 0 -ℤ z')) ≡ neg_ℤ z
neg_word z z' e h = ap (λ w. to_z w64 (of_z w64 (pos 0 -ℤ w))) e ∙ ap (λ w. to_z w64 (of_z w64 w)) (minus_is z) ∙ word (neg_ℤ z) (rw (abs-neg_ℤ z) (omega arith))
  where
    minus_is : (z : ℤ) → pos 0 -ℤ z ≡ neg_ℤ z
    minus_is z = omega (arith, ints)

pub neg_short : (z : ℤ) → IsShort z → IsShort (neg_ℤ z)
neg_short z h = rw (abs-neg_ℤ z) h

pub turned_above : (x p z : ℤ) → pos 0 <ℤ p → z ≡ neg_ℤ x → z *ℤ p ≡ neg_ℤ x *ℤ pos (unsigned_abs p)
turned_above x p z h e = ap (λ w. w *ℤ p) e ∙ ap (λ w. neg_ℤ x *ℤ w) (sym (abs_of_positive p h))

pub turned_below : (x p z : ℤ) → p ≤ℤ pos 0 → z ≡ x → z *ℤ p ≡ neg_ℤ x *ℤ pos (unsigned_abs p)
turned_below x p z h e =
    let s : p ≡ neg_ℤ (pos (unsigned_abs p)) = omega (arith, ints) in
    ap (λ w. w *ℤ p) e ∙ ap (λ w. x *ℤ w) s ∙ ring ℤ_ring (x ∷ pos (unsigned_abs p) ∷ []) (var 0 ⊗ minus (var 1)) (minus (var 0) ⊗ var 1) refl

-- a row's own numbers, as a combination with nothing
pub combined_alone : (x y : ℤ) → combined (pos 1) (pos 0) x y ≡ x
combined_alone x y = ring ℤ_ring (x ∷ y ∷ []) (var 0 ⊗ num (pos 1) ⊕ num (pos 0) ⊗ var 1) (var 0) refl

times_more : (m g : ℕ) → m < 2 ^ 31 → 0 < g → m < 2 ^ 31 * g
times_more m g h p = let q : 2 ^ 31 * 1 ≤ 2 ^ 31 * g = mul-le-mul_left (2 ^ 31) p in omega (arith, q)

pub reduced_denominator : (r r' g g' u u' : ℤ) → r' ≡ r → g' ≡ g → u' ≡ u → pos 0 <ℤ g → IsDenominator u → r *ℤ g' ≡ u' → IsDenominator r'
reduced_denominator r r' g g' u u' er eg eu pg hu e =
    new_denominator r r' g g' u u' u' u' er eg eu refl pg hu.positive e (self (unsigned_abs u'))
    (times_more (unsigned_abs u') (unsigned_abs g') (subst IsShort (sym eu) hu.short) (subst (λ z. 0 < unsigned_abs z) (sym eg) (abs_positive g pg)))
  where
    self : (n : ℕ) → n ≤ n
    self n = omega arith

pub reduced_short : (xs zs : List ℤ) (g g' : ℤ) → g' ≡ g → pos 0 <ℤ g → length zs ≡ length xs → All IsShort xs → ((q : ℕ) → q < length xs → get_or zs q (pos 0) *ℤ g' ≡ get_or xs q (pos 0)) → All IsShort zs
reduced_short xs zs g g' eg pg l s e =
    new_short zs (length xs) (λ q. get_or xs q (pos 0)) g' (pos 2147483647) (omega arith) e (λ q m. under _ (s q (pos 0) m)) (times_more 2147483647 (unsigned_abs g') (omega arith) (subst (λ z. 0 < unsigned_abs z) (sym eg) (abs_positive g pg)))
  where
    under : (n : ℕ) → n < 2 ^ 31 → n ≤ 2147483647
    under n h = omega arith

pub denominator_of : (a a' : ℤ) → a' ≡ a → IsShort a → (a ≡ pos 0 → ⊥) → IsDenominator (to_z w64 (of_z w64 (pos (unsigned_abs a'))))
denominator_of a a' e h n =
    let s : to_z w64 (of_z w64 (pos (unsigned_abs a'))) ≡ pos (unsigned_abs a) = ap (λ z. to_z w64 (of_z w64 (pos (unsigned_abs z)))) e ∙ word (pos (unsigned_abs a)) (omega arith) in
    rw s (record { positive = above a n; short = h })
  where
    above : (a : ℤ) → (a ≡ pos 0 → ⊥) → pos 0 <ℤ pos (unsigned_abs a)
    above (pos zero) n = absurd (n refl)
    above (pos (suc k)) n = omega (arith, ints)
    above (negsuc k) n = omega (arith, ints)

pub test_above : (p p' : ℤ) → p' ≡ p → lt_z (pos 0) p' ≡ true → pos 0 <ℤ p
test_above p p' e h = plain p (ap (λ z. lt_z (pos 0) z) (sym e) ∙ h)
  where
    plain : (p : ℤ) → lt_z (pos 0) p ≡ true → pos 0 <ℤ p
    plain p h = grind (arith, ints)

pub test_below : (p p' : ℤ) → p' ≡ p → lt_z (pos 0) p' ≡ false → p ≤ℤ pos 0
test_below p p' e h = plain p (ap (λ z. lt_z (pos 0) z) (sym e) ∙ h)
  where
    plain : (p : ℤ) → lt_z (pos 0) p ≡ false → p ≤ℤ pos 0
    plain p h = grind (arith, ints)

pub test_short : (n n' : ℤ) → n' ≡ n → le_z n' (negsuc 2147483647) ≡ false → le_z (pos 2147483648) n' ≡ false → IsShort n
test_short n n' e h k = plain n (ap (λ z. le_z z (negsuc 2147483647)) (sym e) ∙ h) (ap (λ z. le_z (pos 2147483648) z) (sym e) ∙ k)
  where
    plain : (n : ℤ) → le_z n (negsuc 2147483647) ≡ false → le_z (pos 2147483648) n ≡ false → IsShort n
    plain n h k = grind (arith, ints)

pub wide_short : (z : ℤ) → IsShort z → to_z w128 (of_z w128 (to_z w64 (of_z w64 z))) ≡ z
wide_short z h = wide_of_word z (omega arith)

pub short_within : (z z' : ℤ) → z' ≡ z → IsShort z → unsigned_abs z' < 2 ^ 127
short_within z z' e h = rw e (under (unsigned_abs z) h)
  where
    under : (n : ℕ) → n < 2 ^ 31 → n < 2 ^ 127
    under n h = omega arith
