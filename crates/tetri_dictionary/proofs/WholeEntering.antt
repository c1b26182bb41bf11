-- The variable that enters over rows of whole numbers.
use Rattle.std.proofs.Common.{◌≡◌, ℕ, ◌+◌, ◌<◌, ◌≤◌, refl, sym, ap, ◌∙◌, subst, arith, List, length, get_or, Bool, true, false, cond, not, ◌&&◌, nat_lt, Option, Some, None, Ok}
use Prim.Native.Nat.{suc}
use Rattle.std.specs.Prelude.{All, unsigned_abs, ◌<ℤ◌}
use Rattle.std.proofs.lemmas.List.{get_or-map}
use lib.IntN.{ℤ, pos}
use lib.Signed.{lt_z}
use Rattle.tetri_algebra.specs.Rational.{ℚ, fraction}
use Rattle.tetri_algebra.specs.RationalRing.{zero_ℚ, neg_ℚ}
use Rattle.tetri_algebra.specs.RationalReciprocal.{◌/ℚ◌}
use Rattle.tetri_rows.specs.Rows.{meaning}
use Rattle.tetri_rows.specs.Small.{IsSmall, IsShort, IsDenominator}
use Rattle.tetri_rows.proofs.RowLaws.{negative_of_small, positive_number, quotient_of_small, small_numbers, test_of}
use Rattle.tetri_dictionary.specs.declared.choices.Candidate.{Candidate}
use Rattle.tetri_dictionary.specs.Candidates.{IsCandidate}
use Rattle.tetri_dictionary.specs.Choices.{lesser_place, lesser_ratio}
use Rattle.tetri_dictionary.specs.Tables.{is_less, is_positive}
use Rattle.tetri_dictionary.specs.WholeRatios.{ratio_at, ratio_candidate, IsAbove}
use Rattle.tetri_dictionary.proofs.MixedChoices.{rest_of, skipped, taken, entering_done}
use Rattle.tetri_dictionary.proofs.MixedRows.{meaning_length}

-- ---- the lesser of two places
pub lesser_alone : (vs : List ℕ) (d e : ℤ) (ns os : List ℤ) (k : ℕ) → ratio_candidate d e ns os (Some k) ≡ lesser_ratio vs (ratio_candidate d e ns os None) k (ratio_at d e ns os k)
lesser_alone vs d e ns os k = refl

pub lesser_new : (vs : List ℕ) (d e : ℤ) (ns os : List ℤ) (k b : ℕ) → is_less (ratio_at d e ns os k) (ratio_at d e ns os b) ≡ true → ratio_candidate d e ns os (Some k) ≡ lesser_ratio vs (ratio_candidate d e ns os (Some b)) k (ratio_at d e ns os k)
lesser_new vs d e ns os k b t =
    let x = ratio_at d e ns os k in
    let y = ratio_at d e ns os b in
    sym (ap (λ z. cond z (Some (k, x)) (cond (not (is_less y x) && nat_lt (get_or vs k 0) (get_or vs b 0)) (Some (k, x)) (Some (b, y)))) t)

pub lesser_old : (vs : List ℕ) (d e : ℤ) (ns os : List ℤ) (k b : ℕ) → is_less (ratio_at d e ns os k) (ratio_at d e ns os b) ≡ false → is_less (ratio_at d e ns os b) (ratio_at d e ns os k) ≡ true →
    ratio_candidate d e ns os (Some b) ≡ lesser_ratio vs (ratio_candidate d e ns os (Some b)) k (ratio_at d e ns os k)
lesser_old vs d e ns os k b f t =
    let x = ratio_at d e ns os k in
    let y = ratio_at d e ns os b in
    sym (ap (λ z. cond z (Some (k, x)) (cond (not (is_less y x) && nat_lt (get_or vs k 0) (get_or vs b 0)) (Some (k, x)) (Some (b, y)))) f
    ∙ ap (λ z. cond (not z && nat_lt (get_or vs k 0) (get_or vs b 0)) (Some (k, x)) (Some (b, y))) t)

pub lesser_tie : (vs : List ℕ) (d e : ℤ) (ns os : List ℤ) (k b : ℕ) (r : Option ℕ) → is_less (ratio_at d e ns os k) (ratio_at d e ns os b) ≡ false → is_less (ratio_at d e ns os b) (ratio_at d e ns os k) ≡ false → r ≡ lesser_place vs (Some b) k →
    ratio_candidate d e ns os r ≡ lesser_ratio vs (ratio_candidate d e ns os (Some b)) k (ratio_at d e ns os k)
lesser_tie vs d e ns os k b r f g re =
    let x = ratio_at d e ns os k in
    let y = ratio_at d e ns os b in
    ap (ratio_candidate d e ns os) re ∙ by_test (nat_lt (get_or vs k 0) (get_or vs b 0))
    ∙ sym (ap (λ z. cond z (Some (k, x)) (cond (not (is_less y x) && nat_lt (get_or vs k 0) (get_or vs b 0)) (Some (k, x)) (Some (b, y)))) f
    ∙ ap (λ z. cond (not z && nat_lt (get_or vs k 0) (get_or vs b 0)) (Some (k, x)) (Some (b, y))) g)
  where
    by_test : (w : Bool) → ratio_candidate d e ns os (cond w (Some k) (Some b)) ≡ cond w (Some (k, ratio_at d e ns os k)) (Some (b, ratio_at d e ns os b))
    by_test true = refl
    by_test false = refl

-- ---- one place more
number_is : (d : ℤ) (ns : List ℤ) (k : ℕ) → k < length ns → get_or (meaning d ns) k zero_ℚ ≡ fraction (get_or ns k (pos 0)) (unsigned_abs d)
number_is d ns k l = get_or-map (λ n. fraction n (unsigned_abs d)) ns k (pos 0) zero_ℚ l

ratio_is : (d e : ℤ) (ns os : List ℤ) (j : ℕ) → j + 1 < length ns → j + 1 < length os → neg_ℚ (get_or (meaning e os) (j + 1) zero_ℚ) /ℚ get_or (meaning d ns) (j + 1) zero_ℚ ≡ ratio_at d e ns os j
ratio_is d e ns os j l m =
    ap (λ z. neg_ℚ z /ℚ get_or (meaning d ns) (j + 1) zero_ℚ) (number_is e os (j + 1) m) ∙ ap (λ z. neg_ℚ (fraction (get_or os (j + 1) (pos 0)) (unsigned_abs e)) /ℚ z) (number_is d ns (j + 1) l)

pub whole_taken : (vs : List ℕ) (i n j : ℕ) (d e : ℤ) (ns os : List ℤ) (best : Option (ℕ × ℚ)) → IsDenominator d → IsDenominator e → All IsShort ns → All IsShort os → length ns ≡ n + 1 → length os ≡ n + 1 → j < n → pos 0 <ℤ get_or ns (j + 1) (pos 0) →
    rest_of vs i (meaning d ns) (meaning e os) (j + 1) (lesser_ratio vs best j (ratio_at d e ns os j)) ≡ rest_of vs i (meaning d ns) (meaning e os) j best
whole_taken vs i n j d e ns os best hd he hn ho ln lo jn p =
    let l : j + 1 < length ns = omega arith in
    let m : j + 1 < length os = omega arith in
    let a = get_or (meaning d ns) (j + 1) zero_ℚ in
    let c = get_or (meaning e os) (j + 1) zero_ℚ in
    let sa : IsSmall a = small_numbers d ns hd hn (j + 1) zero_ℚ (subst (λ z. j + 1 < z) (sym (meaning_length d ns)) l) in
    let sc : IsSmall c = small_numbers e os he ho (j + 1) zero_ℚ (subst (λ z. j + 1 < z) (sym (meaning_length e os)) m) in
    ap (λ x. rest_of vs i (meaning d ns) (meaning e os) (j + 1) (lesser_ratio vs best j x)) (sym (ratio_is d e ns os j l m))
    ∙ taken vs i n j (meaning d ns) (meaning e os) best a c (neg_ℚ c) (neg_ℚ c /ℚ a) (meaning_length d ns ∙ ln) (meaning_length e os ∙ lo) jn
    (positive_number d ns (j + 1) hd l ∙ test_of (pos 0) (get_or ns (j + 1) (pos 0)) p) refl refl refl (quotient_of_small (neg_ℚ c) a (negative_of_small c sc) sa)

pub whole_skipped : (vs : List ℕ) (i n j : ℕ) (d e : ℤ) (ns os : List ℤ) (best : Option (ℕ × ℚ)) → IsDenominator d → length ns ≡ n + 1 → length os ≡ n + 1 → j < n → lt_z (pos 0) (get_or ns (j + 1) (pos 0)) ≡ false →
    rest_of vs i (meaning d ns) (meaning e os) (j + 1) best ≡ rest_of vs i (meaning d ns) (meaning e os) j best
whole_skipped vs i n j d e ns os best hd ln lo jn f =
    skipped vs i n j (meaning d ns) (meaning e os) best (meaning_length d ns ∙ ln) (meaning_length e os ∙ lo) jn (positive_number d ns (j + 1) hd (omega arith) ∙ f)

pub whole_done : (vs : List ℕ) (i n j : ℕ) (d e : ℤ) (ns os : List ℤ) (best : Option (ℕ × ℚ)) → length ns ≡ n + 1 → n ≤ j → rest_of vs i (meaning d ns) (meaning e os) j best ≡ Ok best
whole_done vs i n j d e ns os best ln h = entering_done vs i n j (meaning d ns) (meaning e os) best (meaning_length d ns ∙ ln) h

pub above_in_other : (ns os : List ℤ) (k : ℕ) → length os ≡ length ns → IsAbove ns k → k + 1 < length os
above_in_other ns os k e h = subst (λ z. k + 1 < z) (sym e) h.within

-- the ratio of the place that was chosen
pub chosen : (d e : ℤ) (ns os : List ℤ) (k : ℕ) (x : ℚ) → x ≡ ratio_at d e ns os k → ratio_candidate d e ns os (Some k) ≡ Some (k, x)
chosen d e ns os k x xe = ap (λ z. Some (k, z)) (sym xe)

pub whole_candidate : (vs : List ℕ) (d : ℤ) (ns : List ℤ) (c : Candidate) → IsDenominator d → length ns ≡ length vs + 1 → IsAbove ns c.place → IsCandidate vs (meaning d ns) c
whole_candidate vs d ns c hd ln h = record {
  within = below (length ns) (length vs) c.place ln h.within;
  positive =
      ap (λ k. is_positive (get_or (meaning d ns) k zero_ℚ)) (sym (behind c.place)) ∙ positive_number d ns (c.place + 1) hd h.within ∙ test_of (pos 0) (get_or ns (c.place + 1) (pos 0)) h.positive;
}
  where
    below : (m n k : ℕ) → m ≡ n + 1 → k + 1 < m → k < n
    below m n k e l = omega arith

    behind : (j : ℕ) → j + 1 ≡ suc j
    behind j = omega arith
