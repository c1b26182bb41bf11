-- A row of short whole numbers that is made its mirror.
use Rattle.std.proofs.Common.{◌≡◌, ℕ, ◌*◌, ◌^◌, ◌<◌, refl, sym, ap, ◌∙◌, arith, List, [], ◌∷◌, length, get_or, set, map, false}
use Prim.Native.Nat.{suc}
use Rattle.std.specs.Prelude.{All, unsigned_abs}
use Rattle.std.proofs.lemmas.Int.{ints}
use Rattle.std.proofs.lemmas.List.Elements.{All-set}
use lib.IntN.{ℤ, pos, negsuc, ◌+ℤ◌, ◌-ℤ◌, ◌*ℤ◌, neg_ℤ}
use lib.Signed.{lt_z, le_z}
use mir.Val.{to_z, of_z}
use mir.Syntax.{w64}
use Rattle.tetri_algebra.specs.IntegerRing.{ℤ_ring}
use Rattle.tetri_algebra.specs.Integers.{abs_positive, abs_of_positive}
use Rattle.tetri_algebra.specs.Rational.{fraction, whole_ℚ, same_fraction, fraction-one}
use Rattle.tetri_algebra.specs.RationalRing.{◌+ℚ◌, neg_ℚ, add-fraction, positive_product}
use Rattle.tetri_algebra.specs.RingSolver.{var, num, minus, ring, ◌⊕◌, ◌⊗◌}
use Rattle.tetri_rows.specs.Rows.{meaning}
use Rattle.tetri_rows.specs.Small.{IsShort, IsDenominator}
use Rattle.tetri_rows.proofs.RowLaws.{neg_of_fraction, negative_number, product_below, product_word, test_short, word}
use Rattle.tetri_dictionary.specs.Mirrors.{mirror, IsWidth}
use Rattle.tetri_dictionary.specs.Tables.{constant_of, is_negative}

-- ---- the constant
difference_of : (w n : ℤ) (e : ℕ) → 0 < e → whole_ℚ w +ℚ neg_ℚ (fraction n e) ≡ fraction (w *ℤ pos e -ℤ n) e
difference_of w n e h =
    ap (λ x. x +ℚ neg_ℚ (fraction n e)) (sym (fraction-one w)) ∙ ap (λ x. fraction w 1 +ℚ x) (neg_of_fraction n e h)
    ∙ add-fraction w 1 (neg_ℤ n) e (omega arith) h
    ∙ same_fraction (w *ℤ pos e +ℤ neg_ℤ n *ℤ pos 1) (1 * e) (w *ℤ pos e -ℤ n) e (positive_product 1 e (omega arith) h) h
    (ring ℤ_ring (w ∷ n ∷ pos e ∷ []) ((var 0 ⊗ var 2 ⊕ minus (var 1) ⊗ num (pos 1)) ⊗ var 2) ((var 0 ⊗ var 2 ⊕ minus (var 1)) ⊗ (num (pos 1) ⊗ var 2)) refl)

turned_constant : (w d n : ℤ) → IsDenominator d → whole_ℚ w +ℚ neg_ℚ (fraction n (unsigned_abs d)) ≡ fraction (w *ℤ d -ℤ n) (unsigned_abs d)
turned_constant w d n h =
    difference_of w n (unsigned_abs d) (abs_positive d h.positive) ∙ ap (λ z. fraction (w *ℤ z -ℤ n) (unsigned_abs d)) (abs_of_positive d h.positive)

-- ---- the coefficients
turned_rest : (d : ℤ) (ns ms : List ℤ) → IsDenominator d → length ms ≡ length ns → ((q : ℕ) → q < length ns → get_or ms q (pos 0) ≡ neg_ℤ (get_or ns q (pos 0))) → meaning d ms ≡ map neg_ℚ (meaning d ns)
turned_rest d [] [] h l e = refl
turned_rest d [] (m ∷ ms) h l e = absurd (omega arith)
turned_rest d (n ∷ ns) [] h l e = absurd (omega arith)
turned_rest d (n ∷ ns) (m ∷ ms) h l e =
    ap (λ x. x ∷ meaning d ms) (ap (λ z. fraction z (unsigned_abs d)) (e 0 (omega arith)) ∙ sym (neg_of_fraction n (unsigned_abs d) (abs_positive d h.positive)))
    ∙ ap (λ xs. neg_ℚ (fraction n (unsigned_abs d)) ∷ xs) (turned_rest d ns ms h (omega arith) (λ q b. e (suc q) (omega arith)))

pub turned_meaning : (w d c : ℤ) (ns ms : List ℤ) → IsDenominator d → 0 < length ns → length ms ≡ length ns → c ≡ w *ℤ d -ℤ get_or ns 0 (pos 0) → ((q : ℕ) → q < length ns → get_or ms q (pos 0) ≡ neg_ℤ (get_or ns q (pos 0))) →
    meaning d (set ms 0 c) ≡ mirror w (meaning d ns)
turned_meaning w d c [] ms h s l ce e = absurd (omega arith)
turned_meaning w d c (n ∷ ns) [] h s l ce e = absurd (omega arith)
turned_meaning w d c (n ∷ ns) (m ∷ ms) h s l ce e =
    ap (λ z. fraction z (unsigned_abs d) ∷ meaning d ms) ce ∙ ap (λ x. x ∷ meaning d ms) (sym (turned_constant w d n h))
    ∙ ap (λ xs. (whole_ℚ w +ℚ neg_ℚ (fraction n (unsigned_abs d))) ∷ xs) (turned_rest d ns ms h (omega arith) (λ q b. e (suc q) (omega arith)))

-- ---- the sign of its constant
pub turned_sign : (w d : ℤ) (ns : List ℤ) → IsDenominator d → 0 < length ns → is_negative (constant_of (mirror w (meaning d ns))) ≡ lt_z (w *ℤ d -ℤ get_or ns 0 (pos 0)) (pos 0)
turned_sign w d [] h s = absurd (omega arith)
turned_sign w d (n ∷ ns) h s =
    ap is_negative (turned_constant w d n h) ∙ negative_number d ((w *ℤ d -ℤ n) ∷ []) 0 h (omega arith)

-- ---- the same as the code has it
pub width_short : (w : ℤ) → IsWidth w → IsShort w
width_short w h = let a = h.least in let b = h.most in omega (arith, ints, a, b)

pub constant_word : (w d n w' d' n' : ℤ) → w' ≡ w → d' ≡ d → n' ≡ n → IsWidth w → IsDenominator d → IsShort n → to_z w64 (of_z w64 (to_z w64 (of_z w64 (w' *ℤ d')) -ℤ n')) ≡ w *ℤ d -ℤ n
constant_word w d n w' d' n' we de ne hw hd hn =
    ap (λ z. to_z w64 (of_z w64 (z -ℤ n'))) (product_word w d w' d' we de (width_short w hw) hd.short) ∙ ap (λ z. to_z w64 (of_z w64 (w *ℤ d -ℤ z))) ne
    ∙ word (w *ℤ d -ℤ n) (below (w *ℤ d) n (product_below w d (width_short w hw) hd.short) hn)
  where
    below : (x y : ℤ) → unsigned_abs x < 2 ^ 62 → IsShort y → unsigned_abs (x -ℤ y) < 2 ^ 63
    below x y h k = omega (arith, ints, h, k)

below_difference : (x y : ℤ) → lt_z x y ≡ lt_z (x -ℤ y) (pos 0)
below_difference x y = grind (arith, ints)

pub past_width : (w d w' d' n' : ℤ) (ns : List ℤ) → w' ≡ w → d' ≡ d → n' ≡ get_or ns 0 (pos 0) → IsWidth w → IsDenominator d → 0 < length ns →
    lt_z (to_z w64 (of_z w64 (w' *ℤ d'))) n' ≡ is_negative (constant_of (mirror w (meaning d ns)))
past_width w d w' d' n' ns we de ne hw hd s =
    ap (λ z. lt_z z n') (product_word w d w' d' we de (width_short w hw) hd.short) ∙ ap (λ z. lt_z (w *ℤ d) z) ne
    ∙ below_difference (w *ℤ d) (get_or ns 0 (pos 0)) ∙ sym (turned_sign w d ns hd s)

pub set_short : (ns : List ℤ) (c : ℤ) → All IsShort ns → le_z c (negsuc 2147483647) ≡ false → le_z (pos 2147483648) c ≡ false → All IsShort (set ns 0 c)
set_short ns c h l m = All-set IsShort ns 0 c (test_short c c refl l m) h
