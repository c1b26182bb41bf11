-- A row in which a pivot's row is put in, number by number.
use Rattle.std.proofs.Common.{◌≡◌, ℕ, ◌*◌, ◌^◌, ◌<◌, refl, sym, ap, ◌∙◌, arith, List, [], ◌∷◌, length, get_or, map}
use Prim.Native.Nat.{suc}
use Rattle.std.specs.Prelude.{unsigned_abs}
use Rattle.std.proofs.lemmas.List.{get_or-map}
use lib.IntN.{ℤ, pos, ◌+ℤ◌, ◌*ℤ◌}
use Rattle.tetri_algebra.specs.RingSolver.{var, num, ring, ◌⊕◌, ◌⊗◌}
use Rattle.tetri_algebra.specs.IntegerRing.{ℤ_ring}
use Rattle.tetri_algebra.specs.Rational.{ℚ, fraction, fraction_is, same_fraction}
use Rattle.tetri_algebra.specs.RationalRing.{◌+ℚ◌, ◌*ℚ◌, zero_ℚ, mul-fraction, add-fraction, positive_product, num-whole_ℚ}
use Rattle.tetri_algebra.specs.Integers.{abs_of_positive, abs_positive}
use Rattle.tetri_rows.specs.Small.{IsSmall, IsShort, IsDenominator}
use Rattle.tetri_rows.specs.Rows.{meaning, combined}
use Rattle.tetri_rows.proofs.Bounds.{small_fraction}

-- ---- one number: a common factor g of the numerator and the denominator is left out
pub entry_value : (x f y z g : ℤ) (d e h : ℕ) → 0 < d → 0 < e → 0 < h → pos h *ℤ g ≡ pos d *ℤ pos e → z *ℤ g ≡ combined (pos e) f x y →
    fraction x d +ℚ fraction f d *ℚ fraction y e ≡ fraction z h
entry_value x f y z g d e h pd pe ph he ze =
    let a = var 0 in let b = var 1 in let c = var 2 in let i = var 3 in let j = var 4 in let k = var 5 in
    ap (λ p. fraction x d +ℚ p) (mul-fraction f d y e pd pe)
    ∙ add-fraction x d (f *ℤ y) (d * e) pd (positive_product d e pd pe)
    ∙ same_fraction (x *ℤ pos (d * e) +ℤ (f *ℤ y) *ℤ pos d) (d * (d * e)) z h (positive_product d (d * e) pd (positive_product d e pd pe)) ph (
    ring ℤ_ring (x ∷ f ∷ y ∷ pos d ∷ pos e ∷ pos h ∷ []) ((a ⊗ (i ⊗ j) ⊕ (b ⊗ c) ⊗ i) ⊗ k) ((i ⊗ k) ⊗ (a ⊗ j ⊕ b ⊗ c)) refl
    ∙ ap (λ n. (pos d *ℤ pos h) *ℤ n) (sym ze)
    ∙ ring ℤ_ring (z ∷ g ∷ pos d ∷ pos h ∷ []) ((c ⊗ i) ⊗ (a ⊗ b)) ((a ⊗ c) ⊗ (i ⊗ b)) refl
    ∙ ap (λ n. (z *ℤ pos d) *ℤ n) he
    ∙ ring ℤ_ring (z ∷ pos d ∷ pos e ∷ []) ((a ⊗ b) ⊗ (b ⊗ c)) (a ⊗ (b ⊗ (b ⊗ c))) refl)

pub same_meaning : (x z g : ℤ) (d h : ℕ) → 0 < d → 0 < h → pos h *ℤ g ≡ pos d → z *ℤ g ≡ x → fraction x d ≡ fraction z h
same_meaning x z g d h pd ph he ze =
    same_fraction x d z h pd ph (
    ap (λ n. n *ℤ pos h) (sym ze)
    ∙ ring ℤ_ring (z ∷ g ∷ pos h ∷ []) ((var 0 ⊗ var 1) ⊗ var 2) (var 0 ⊗ (var 2 ⊗ var 1)) refl
    ∙ ap (λ n. z *ℤ n) he)

-- a row whose numbers and denominator are divided by a common factor means the same
pub rows_same : (g : ℤ) (d h : ℕ) (xs zs : List ℤ) → 0 < d → 0 < h → pos h *ℤ g ≡ pos d → length zs ≡ length xs → ((q : ℕ) → q < length xs → get_or zs q (pos 0) *ℤ g ≡ get_or xs q (pos 0)) →
    map (λ n. fraction n d) xs ≡ map (λ n. fraction n h) zs
rows_same g d h [] [] pd ph he l e = refl
rows_same g d h [] (z ∷ zs) pd ph he l e = absurd (omega arith)
rows_same g d h (x ∷ xs) [] pd ph he l e = absurd (omega arith)
rows_same g d h (x ∷ xs) (z ∷ zs) pd ph he l e =
    ap (λ p. p ∷ map (λ n. fraction n d) xs) (same_meaning x z g d h pd ph he (e 0 (omega arith)))
    ∙ ap (λ ps. fraction z h ∷ ps) (rows_same g d h xs zs pd ph he (omega arith) (λ q m. e (suc q) (omega arith)))

pub zero_fraction : (d : ℕ) → 0 < d → fraction (pos 0) d ≡ zero_ℚ
zero_fraction d h = fraction_is (pos 0) d zero_ℚ h (ap (λ n. n *ℤ pos d) (num-whole_ℚ (pos 0)) ∙ ring ℤ_ring (pos d ∷ pos zero_ℚ.den ∷ []) (num (pos 0) ⊗ var 0) (num (pos 0) ⊗ var 1) refl)

pub short_fraction : (n : ℤ) (d : ℕ) → 0 < d → IsShort n → d < 2 ^ 31 → IsSmall (fraction n d)
short_fraction n d h k l = small_fraction n d h (omega arith) (omega arith)

-- the same as the code has it
pub meaning_same : (den new g g' : ℤ) (xs zs : List ℤ) → IsDenominator den → IsDenominator new → g' ≡ g → new *ℤ g ≡ den → length zs ≡ length xs → ((q : ℕ) → q < length xs → get_or zs q (pos 0) *ℤ g' ≡ get_or xs q (pos 0)) →
    meaning new zs ≡ meaning den xs
meaning_same den new g g' xs zs hd hn eg e l t =
    sym (rows_same g (unsigned_abs den) (unsigned_abs new) xs zs (abs_positive den hd.positive) (abs_positive new hn.positive)
    (ap (λ z. z *ℤ g) (abs_of_positive new hn.positive) ∙ e ∙ sym (abs_of_positive den hd.positive)) l (λ q m. ap (λ z. get_or zs q (pos 0) *ℤ z) (sym eg) ∙ t q m))

pub item_of : (p : ℚ) (den den' x' : ℤ) (xs : List ℤ) (k : ℕ) → k < length xs → den' ≡ den → x' ≡ get_or xs k (pos 0) → p ≡ fraction x' (unsigned_abs den') → p ≡ get_or (meaning den xs) k zero_ℚ
item_of p den den' x' xs k l de xe e =
    e ∙ ap (λ z. fraction z (unsigned_abs den')) xe ∙ ap (λ z. fraction (get_or xs k (pos 0)) (unsigned_abs z)) de ∙ sym (get_or-map (λ n. fraction n (unsigned_abs den)) xs k (pos 0) zero_ℚ l)
