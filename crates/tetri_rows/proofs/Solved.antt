-- A whole row solved for one of its variables.
use Rattle.std.proofs.Common.{◌≡◌, ℕ, ◌*◌, ◌<◌, refl, sym, ap, ◌∙◌, arith, List, [], ◌∷◌, length, get_or, set, map}
use Prim.Native.Nat.{zero, suc}
use Rattle.std.specs.Prelude.{unsigned_abs}
use Rattle.std.proofs.lemmas.List.{map-set, get_or-map, length-set}
use lib.IntN.{ℤ, pos, negsuc, ◌*ℤ◌, neg_ℤ}
use Rattle.tetri_algebra.specs.Integers.{*ℤ_cancel_right, abs_of_positive, abs_positive}
use Rattle.tetri_algebra.specs.RingSolver.{var, num, minus, ring, ◌⊗◌}
use Rattle.tetri_algebra.specs.IntegerRing.{ℤ_ring}
use Rattle.tetri_algebra.specs.Rational.{ℚ, fraction, fraction_is, fraction-cross, same_fraction, whole_ℚ}
use Rattle.tetri_algebra.specs.RationalRing.{◌*ℚ◌, neg_ℚ, zero_ℚ, one_ℚ, mul-fraction, positive_product, neg_fraction, *ℚ_assoc, *ℚ_comm, one-*ℚ, num-whole_ℚ, den-whole_ℚ}
use Rattle.tetri_algebra.specs.RationalReciprocal.{◌/ℚ◌, recip_ℚ, *ℚ-recip}
use Rattle.tetri_rows.specs.Small.{IsDenominator}
use Rattle.tetri_rows.specs.Rows.{meaning, minus_quotients, solved_for}

pub neg_of_fraction : (x : ℤ) (d : ℕ) → 0 < d → neg_ℚ (fraction x d) ≡ fraction (neg_ℤ x) d
neg_of_fraction x d h =
    let p = fraction x d in
    neg_fraction p
    ∙ same_fraction (neg_ℤ p.num) p.den (neg_ℤ x) d p.positive h (
    ring ℤ_ring (p.num ∷ pos d ∷ []) (minus (var 0) ⊗ var 1) (minus (var 0 ⊗ var 1)) refl
    ∙ ap neg_ℤ (fraction-cross x d h)
    ∙ ring ℤ_ring (x ∷ pos p.den ∷ []) (minus (var 0 ⊗ var 1)) (minus (var 0) ⊗ var 1) refl)

pub fraction_not_zero : (a : ℤ) (d : ℕ) → 0 < d → (a ≡ pos 0 → ⊥) → (fraction a d).num ≡ pos 0 → ⊥
fraction_not_zero a d h n e =
    let p = fraction a d in
    n (*ℤ_cancel_right a (pos 0) p.den p.positive (sym (fraction-cross a d h) ∙ ap (λ z. z *ℤ pos d) e ∙ ring ℤ_ring (pos d ∷ pos p.den ∷ []) (num (pos 0) ⊗ var 0) (num (pos 0) ⊗ var 1) refl))

-- what gives p when multiplied by q is the quotient
pub quotient_is : (p q s : ℚ) → (q.num ≡ pos 0 → ⊥) → s *ℚ q ≡ p → p /ℚ q ≡ s
quotient_is p q s n e =
    ap (λ x. x *ℚ recip_ℚ q) (sym e) ∙ *ℚ_assoc s q (recip_ℚ q) ∙ ap (λ x. s *ℚ x) (*ℚ-recip q n) ∙ *ℚ_comm s one_ℚ ∙ one-*ℚ s

pub solved_value : (x a z : ℤ) (d h : ℕ) → 0 < d → 0 < h → (a ≡ pos 0 → ⊥) → z *ℤ a ≡ neg_ℤ x *ℤ pos h → neg_ℚ (fraction x d) /ℚ fraction a d ≡ fraction z h
solved_value x a z d h pd ph n e =
    quotient_is (neg_ℚ (fraction x d)) (fraction a d) (fraction z h) (fraction_not_zero a d pd n)
    (mul-fraction z h a d ph pd
    ∙ same_fraction (z *ℤ a) (h * d) (neg_ℤ x) d (positive_product h d ph pd) pd (ap (λ w. w *ℤ pos d) e ∙ ring ℤ_ring (x ∷ pos h ∷ pos d ∷ []) ((minus (var 0) ⊗ var 1) ⊗ var 2) (minus (var 0) ⊗ (var 1 ⊗ var 2)) refl)
    ∙ sym (neg_of_fraction x d pd))

pub each_solved : (a : ℤ) (d h : ℕ) (xs zs : List ℤ) → 0 < d → 0 < h → (a ≡ pos 0 → ⊥) → length zs ≡ length xs →
    ((q : ℕ) → q < length xs → get_or zs q (pos 0) *ℤ a ≡ neg_ℤ (get_or xs q (pos 0)) *ℤ pos h) →
    minus_quotients (fraction a d) (map (λ z. fraction z d) xs) ≡ map (λ z. fraction z h) zs
each_solved a d h [] [] pd ph na lz t = refl
each_solved a d h [] (z ∷ zs) pd ph na lz t = absurd (omega arith)
each_solved a d h (x ∷ xs) [] pd ph na lz t = absurd (omega arith)
each_solved a d h (x ∷ xs) (z ∷ zs) pd ph na lz t =
    ap (λ p. p ∷ minus_quotients (fraction a d) (map (λ z. fraction z d) xs)) (solved_value x a z d h pd ph na (t 0 (omega arith)))
    ∙ ap (λ ps. fraction z h ∷ ps) (each_solved a d h xs zs pd ph na (omega arith) (λ q l. t (suc q) (omega arith)))

minus_one : (d : ℕ) → 0 < d → fraction (neg_ℤ (pos d)) d ≡ whole_ℚ (negsuc 0)
minus_one d h =
    fraction_is (neg_ℤ (pos d)) d (whole_ℚ (negsuc 0)) h
    (ap (λ n. n *ℤ pos d) (num-whole_ℚ (negsuc 0)) ∙ ring ℤ_ring (pos d ∷ []) (num (negsuc 0) ⊗ var 0) (minus (var 0) ⊗ num (pos 1)) refl ∙ ap (λ n. neg_ℤ (pos d) *ℤ pos n) (sym (den-whole_ℚ (negsuc 0))))

-- the leaving row, with minus its denominator in the place of the entering variable's number
pub solved_is : (j : ℕ) (a : ℤ) (d h : ℕ) (xs zs : List ℤ) → 0 < d → 0 < h → j < length xs → a ≡ get_or xs j (pos 0) → (a ≡ pos 0 → ⊥) → length zs ≡ length xs →
    ((q : ℕ) → q < length xs → get_or zs q (pos 0) *ℤ a ≡ neg_ℤ (get_or (set xs j (neg_ℤ (pos d))) q (pos 0)) *ℤ pos h) →
    solved_for j (map (λ z. fraction z d) xs) ≡ map (λ z. fraction z h) zs
solved_is j a d h xs zs pd ph lj ae na lz t =
    let m = neg_ℤ (pos d) in
    let at : get_or (map (λ z. fraction z d) xs) j zero_ℚ ≡ fraction a d = get_or-map (λ z. fraction z d) xs j (pos 0) zero_ℚ lj ∙ ap (λ z. fraction z d) (sym ae) in
    let l : length (set xs j m) ≡ length xs = length-set xs j m in
    ap (λ b. minus_quotients b (set (map (λ z. fraction z d) xs) j (whole_ℚ (negsuc 0)))) at
    ∙ ap (λ w. minus_quotients (fraction a d) (set (map (λ z. fraction z d) xs) j w)) (sym (minus_one d pd))
    ∙ ap (λ ws. minus_quotients (fraction a d) ws) (sym (map-set (λ z. fraction z d) xs j m))
    ∙ each_solved a d h (set xs j m) zs pd ph na (lz ∙ sym l) (λ q k. t q (omega arith))

-- the same as the code has it, and reduced after
pub solved_meaning : (j : ℕ) (den a a' m new h' : ℤ) (xs zs ws : List ℤ) → IsDenominator den → j < length xs → a ≡ get_or xs j (pos 0) → a' ≡ a → (a ≡ pos 0 → ⊥) → m ≡ neg_ℤ den → length zs ≡ length xs →
    ((q : ℕ) → q < length xs → get_or zs q (pos 0) *ℤ a' ≡ neg_ℤ (get_or (set xs j m) q (pos 0)) *ℤ pos (unsigned_abs a')) → h' ≡ pos (unsigned_abs a) → meaning new ws ≡ meaning h' zs →
    meaning new ws ≡ solved_for j (meaning den xs)
solved_meaning j den a a' m new h' xs zs ws hd l ax ae na em lz t he r =
    let ad = abs_of_positive den hd.positive in
    let md : m ≡ neg_ℤ (pos (unsigned_abs den)) = em ∙ ap neg_ℤ (sym ad) in
    sym (
    solved_is j a (unsigned_abs den) (unsigned_abs a) xs zs (abs_positive den hd.positive) (above a na) l ax na lz
    (λ q k. ap (λ z. get_or zs q (pos 0) *ℤ z) (sym ae) ∙ t q k ∙ ap (λ z. neg_ℤ (get_or (set xs j m) q (pos 0)) *ℤ pos (unsigned_abs z)) ae
    ∙ ap (λ w. neg_ℤ (get_or (set xs j w) q (pos 0)) *ℤ pos (unsigned_abs a)) md)
    ∙ ap (λ z. map (λ w. fraction w (unsigned_abs z)) zs) (sym he) ∙ sym r)
  where
    above : (a : ℤ) → (a ≡ pos 0 → ⊥) → 0 < unsigned_abs a
    above (pos zero) n = absurd (n refl)
    above (pos (suc k)) n = omega arith
    above (negsuc k) n = omega arith
