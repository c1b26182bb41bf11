-- Rows over a multiple of their denominator, and a pivot's row put in where the row's number is a multiple of the pivot's denominator.
use Rattle.std.proofs.Common.{◌≡◌, ℕ, ◌*◌, ◌^◌, ◌<◌, ◌≤◌, refl, sym, ap, ◌∙◌, subst, arith, List, [], ◌∷◌, length, get_or, set}
use Prim.Native.Nat.{◌∣◌}
use Rattle.std.specs.Prelude.{unsigned_abs, All, ◌<ℤ◌}
use Rattle.std.proofs.Math.Nat.{mul-dvd-mul_left, dvd-mul_left, mul_comm, mul-le-mul_left}
use Rattle.std.proofs.lemmas.Int.{unsigned_abs-mul}
use Rattle.std.proofs.lemmas.List.{ext_get_or, get_or_default}
use lib.IntN.{ℤ, pos, ◌*ℤ◌}
use Rattle.tetri_algebra.specs.Integers.{abs_of_positive, abs_positive, *ℤ_cancel_right}
use Rattle.tetri_algebra.specs.RingSolver.{var, num, ring, ◌⊕◌, ◌⊗◌}
use Rattle.tetri_algebra.specs.IntegerRing.{ℤ_ring}
use Rattle.tetri_rows.specs.Small.{IsShort, IsDenominator}
use Rattle.tetri_rows.specs.Rows.{meaning, put_in, combined}
use Rattle.tetri_rows.specs.Terms.{AreTerms, term_at}
use Rattle.tetri_rows.proofs.Meanings.{meaning_same}
use Rattle.tetri_rows.proofs.Pairs.{row_meaning}
use Rattle.tetri_rows.proofs.TermRows.{terms_combined}

-- what is left of the denominator without its common divisor with f makes f whole
pub whole_multiple : (f den g d : ℤ) → unsigned_abs g ∣ unsigned_abs f → d *ℤ g ≡ den → unsigned_abs den ∣ unsigned_abs (f *ℤ d)
whole_multiple f den g d h e =
    let a : unsigned_abs d * unsigned_abs g ≡ unsigned_abs den = sym (unsigned_abs-mul d g) ∙ ap unsigned_abs e in
    let b : unsigned_abs (f *ℤ d) ≡ unsigned_abs d * unsigned_abs f = unsigned_abs-mul f d ∙ mul_comm (unsigned_abs f) (unsigned_abs d) in
    subst (λ n. n ∣ unsigned_abs (f *ℤ d)) a (subst (λ n. unsigned_abs d * unsigned_abs g ∣ n) (sym b) (mul-dvd-mul_left (unsigned_abs g) (unsigned_abs d) h))

-- a quotient by a denominator is no larger
pub quotient_size : (z g n : ℕ) → z * g ≡ n → 0 < g → n < 2 ^ 31 → z < 2 ^ 31
quotient_size z g n e p h = let q : z * 1 ≤ z * g = mul-le-mul_left z p in omega (arith, q, e, h)

pub quotient_is_short : (z z' g g' n n' : ℤ) → z' ≡ z → g' ≡ g → n' ≡ n → unsigned_abs z * unsigned_abs g' ≡ unsigned_abs n' → pos 0 <ℤ g → IsShort n → IsShort z'
quotient_is_short z z' g g' n n' ez eg en e p h =
    subst IsShort (sym ez) (quotient_size (unsigned_abs z) (unsigned_abs g) (unsigned_abs n) (ap (λ k. unsigned_abs z * unsigned_abs k) (sym eg) ∙ e ∙ ap unsigned_abs en) (abs_positive g p) h)

-- ---- a row over a multiple of its denominator
pub product_short : (x s m : ℤ) → unsigned_abs (combined s (pos 0) x x) ≤ unsigned_abs m → unsigned_abs m < 2 ^ 31 → IsShort (x *ℤ s)
product_short x s m h k = let e : combined s (pos 0) x x ≡ x *ℤ s = ring ℤ_ring (x ∷ s ∷ []) (var 0 ⊗ var 1 ⊕ num (pos 0) ⊗ var 0) (var 0 ⊗ var 1) refl in subst IsShort e (under _ _ h k)
  where
    under : (m n : ℕ) → m ≤ n → n < 2 ^ 31 → m < 2 ^ 31
    under m n h k = omega arith

pub one_times : (m : ℕ) → m < 2 ^ 31 * 1 → m < 2 ^ 31
one_times m h = omega arith

pub scaled_short : (xs zs : List ℤ) (s : ℤ) → length zs ≡ length xs → ((q : ℕ) → q < length xs → get_or zs q (pos 0) ≡ get_or xs q (pos 0) *ℤ s) → ((q : ℕ) → q < length xs → IsShort (get_or xs q (pos 0) *ℤ s)) → All IsShort zs
scaled_short xs zs s l e h k d m =
    let b : k < length xs = omega arith in
    subst IsShort (get_or_default zs k (pos 0) d m) (subst IsShort (sym (e k b)) (h k b))

pub times_one : (x s : ℤ) → s ≡ pos 1 → x ≡ x *ℤ s
times_one x s e = ring ℤ_ring (x ∷ []) (var 0) (var 0 ⊗ num (pos 1)) refl ∙ ap (λ z. x *ℤ z) (sym e)

pub scaled_meaning : (den wider s s' : ℤ) (xs zs : List ℤ) → IsDenominator den → IsDenominator wider → wider ≡ den *ℤ s → s' ≡ s → length zs ≡ length xs → ((q : ℕ) → q < length xs → get_or zs q (pos 0) ≡ get_or xs q (pos 0) *ℤ s') →
    meaning wider zs ≡ meaning den xs
scaled_meaning den wider s s' xs zs hd hw e es l t =
    sym (meaning_same wider den s s zs xs hw hd refl (sym e) (sym l) (λ q m. ap (λ z. get_or xs q (pos 0) *ℤ z) (sym es) ∙ sym (t q (omega arith))))

pub divides_scaled : (x s s' z : ℤ) → z ≡ x *ℤ s → s' ≡ s → unsigned_abs s' ∣ unsigned_abs z
divides_scaled x s s' z e es =
    subst (λ k. unsigned_abs k ∣ unsigned_abs z) (sym es) (subst (λ n. unsigned_abs s ∣ n) (sym (ap unsigned_abs e ∙ unsigned_abs-mul x s)) (dvd-mul_left (unsigned_abs s) (unsigned_abs x)))

-- what was multiplied and divided is as it was
pub scaled_back : (xs ys zs : List ℤ) (s s' s'' : ℤ) → pos 0 <ℤ s → s' ≡ s → s'' ≡ s → length ys ≡ length xs → length zs ≡ length xs → ((q : ℕ) → q < length xs → get_or ys q (pos 0) ≡ get_or xs q (pos 0) *ℤ s') →
    ((q : ℕ) → q < length ys → get_or zs q (pos 0) *ℤ s'' ≡ get_or ys q (pos 0)) → zs ≡ xs
scaled_back xs ys zs s s' s'' p e f ly lz h k =
    ext_get_or (pos 0) zs xs lz (λ q m.
    let a : get_or zs q (pos 0) *ℤ s ≡ get_or xs q (pos 0) *ℤ s = ap (λ w. get_or zs q (pos 0) *ℤ w) (sym f) ∙ k q (omega arith) ∙ h q (omega arith) ∙ ap (λ w. get_or xs q (pos 0) *ℤ w) e in
    *ℤ_cancel_right (get_or zs q (pos 0)) (get_or xs q (pos 0)) (unsigned_abs s) (abs_positive s p)
    (ap (λ w. get_or zs q (pos 0) *ℤ w) (abs_of_positive s p) ∙ a ∙ ap (λ w. get_or xs q (pos 0) *ℤ w) (sym (abs_of_positive s p))))

-- ---- a pivot's row by its terms
pub by_multiple : (by pd f x y z : ℤ) → z *ℤ pos 1 ≡ combined (pos 1) by x y → by *ℤ pd ≡ f → z *ℤ pd ≡ combined pd f x y
by_multiple by pd f x y z h e =
    ring ℤ_ring (z ∷ pd ∷ []) (var 0 ⊗ var 1) ((var 0 ⊗ num (pos 1)) ⊗ var 1) refl
    ∙ ap (λ w. w *ℤ pd) h
    ∙ ring ℤ_ring (by ∷ pd ∷ x ∷ y ∷ []) ((var 2 ⊗ num (pos 1) ⊕ var 0 ⊗ var 3) ⊗ var 1) (var 2 ⊗ var 1 ⊕ (var 0 ⊗ var 1) ⊗ var 3) refl
    ∙ ap (λ w. combined pd w x y) e

pub terms_meaning : (j : ℕ) (den pd f by : ℤ) (xs ys zs : List ℤ) (P : List ℕ) (N : List ℤ) → IsDenominator den → IsDenominator pd → by *ℤ pd ≡ f → f ≡ get_or xs j (pos 0) → j < length xs → length ys ≡ length xs → length zs ≡ length xs →
    ((q : ℕ) → q < length P → get_or zs (get_or P q 0) (pos 0) ≡ term_at by (set xs j (pos 0)) P N q) →
    ((p : ℕ) → ((q : ℕ) → q < length P → get_or P q 0 ≡ p → ⊥) → get_or zs p (pos 0) ≡ get_or (set xs j (pos 0)) p (pos 0)) → AreTerms P N ys →
    meaning den zs ≡ put_in j (meaning pd ys) (meaning den xs)
terms_meaning j den pd f by xs ys zs P N hd hp e fx l ly lz done other t =
    row_meaning j den pd f pd den pd f pd xs ys zs hd hp hd refl refl refl fx l ly lz refl
    (λ q m. by_multiple by pd f (get_or (set xs j (pos 0)) q (pos 0)) (get_or ys q (pos 0)) (get_or zs q (pos 0)) (terms_combined by (set xs j (pos 0)) ys zs P N done other t q (omega arith)) e)
