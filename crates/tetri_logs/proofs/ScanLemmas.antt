-- Bytes that are sought by vectors.
use Rattle.std.proofs.Common.{◌≡◌, ◌+◌, ◌<◌, ◌≤◌, ◌^◌, ◌%◌, ◌/◌, ◌*◌, ◌-◌, ◌∙◌, ℕ, zero, suc, Bool, true, false, not, cond, eqb, List, [], ◌∷◌, ◌++◌, ◌≢◌, drop, length, map, min, take, refl, sym, ap, ap₂, append_assoc, arith}
use Rattle.std.specs.List.{position_or_len, slice_range, slice_split}
use Rattle.std.proofs.lemmas.Simd.{chunk-drop, length-chunk, leading_from_mask_l, mask_l-mod, trailing_mask_l}
use Rattle.std.proofs.lemmas.Bool.{eq-eqb, ne_eqb}
use Rattle.std.proofs.lemmas.List.{drop-drop, drop-map, drop-take, length-drop, length-map, take_all, take_min}
use Rattle.std.proofs.Math.Nat.{div-div-eq-div-mul, div-one, mul-le-mul_left, mul-one, pow-suc, pow-succ', zero-mul}
use Rattle.std.proofs.lemmas.Nat.{pow_pos}
use Rattle.std.proofs.lemmas.List.Folds.{prefix_len-append}
use Rattle.std.proofs.lemmas.List.Sums.{fails_before_first, prefix_len-le-length}
use Rattle.std.proofs.lemmas.List.Splits.{slice_split_first, slice_split_none}
use Rattle.tetri_logs.proofs.BitLemmas.{lowest_up, without_lowest_up}
use lib.Bits.{bit_and}
use lib.Lanes.{chunk, mask_l, top}
use lib.Count.{count_trailing_zeros}

-- a lane of ones where a byte is this one
abbrev pub hit : ℕ → ℕ → ℕ
hit a b = cond (eqb a b) 255 0

top_hit : (t : Bool) → top 7 (cond t 255 0) ≡ t
top_hit true = refl
top_hit false = refl

tops : (byte : ℕ) (bytes : List ℕ) → map (top 7) (map (λ b. hit b byte) bytes) ≡ map (λ b. eqb b byte) bytes
tops byte [] = refl
tops byte (b ∷ bs) = ap₂ (λ t ts. t ∷ ts) (top_hit (eqb b byte)) (tops byte bs)

pub marked : (byte : ℕ) (bytes lanes : List ℕ) → length bytes ≤ 64 → lanes ≡ map (λ b. hit b byte) bytes → mask_l (map (top 7) lanes) % 2 ^ 64 ≡ mask_l (map (λ b. eqb b byte) bytes)
marked byte bytes lanes short is =
    ap (λ l. mask_l l % 2 ^ 64) (ap (map (top 7)) is ∙ tops byte bytes) ∙ mask_l-mod (map (λ b. eqb b byte) bytes) 64 (omega (arith, length-map bytes (λ b. eqb b byte)))

halved : (b : Bool) (m : ℕ) → (cond b 1 0 + 2 * m) / 2 ≡ m
halved true m = omega arith
halved false m = omega arith

-- a mask shifted is that of what stands behind
mask_l-drop : (k : ℕ) (bits : List Bool) → mask_l (drop k bits) ≡ mask_l bits / 2 ^ k
mask_l-drop zero bits = sym (div-one (mask_l bits))
mask_l-drop (suc k) [] = omega arith
mask_l-drop (suc k) (b ∷ bits) =
    mask_l-drop k bits ∙ ap (λ m. m / 2 ^ k) (sym (halved b (mask_l bits))) ∙ div-div-eq-div-mul (mask_l (b ∷ bits)) 2 (2 ^ k)
    ∙ ap (λ n. mask_l (b ∷ bits) / n) (sym (pow-succ' 2 k))

up_le : (m j : ℕ) → m ≤ m * 2 ^ j
up_le m j = omega (arith, mul-le-mul_left m (pow_pos j))

no_bits : (m j : ℕ) → m * 2 ^ j ≡ 0 → m ≡ 0
no_bits m j none = omega (arith, up_le m j, none)

module _ (p : ℕ → Bool) where
  -- the marks of a chunk, shifted
  shifted : (xs : List ℕ) (i n k : ℕ) → k ≤ n → mask_l (map p (chunk (i + k) (n - k) xs)) ≡ mask_l (map p (chunk i n xs)) / 2 ^ k
  shifted xs i n k le =
      let whole : k + (n - k) ≡ n = omega arith in
      ap (λ ys. mask_l (map p (take (n - k) ys))) (sym (drop-drop k i xs))
      ∙ ap (λ ys. mask_l (map p ys)) (sym (drop-take k (n - k) (drop i xs)) ∙ ap (λ m. drop k (take m (drop i xs))) whole)
      ∙ ap mask_l (sym (drop-map p k (chunk i n xs)))
      ∙ mask_l-drop k (map p (chunk i n xs))

  -- those of the end, taken out of those of the last 64 bytes
  pub at_end : (xs : List ℕ) (i : ℕ) → 64 ≤ length xs → i ≤ length xs → length xs - i ≤ 64
      → mask_l (map p (chunk (length xs - 64) 64 xs)) / 2 ^ (64 - (length xs - i)) ≡ mask_l (map p (take 64 (drop i xs)))
  at_end xs i long inside few =
      let left = length xs - i in
      let there : length xs - 64 + (64 - left) ≡ i = omega arith in
      let few_left : 64 - (64 - left) ≡ left = omega arith in
      sym (shifted xs (length xs - 64) 64 (64 - left) (omega arith))
      ∙ ap₂ (λ j m. mask_l (map p (chunk j m xs))) there few_left
      ∙ ap (λ ys. mask_l (map p ys)) (take_all left (drop i xs) (omega (arith, length-drop i xs)) ∙ sym (take_all 64 (drop i xs) (omega (arith, length-drop i xs))))

  none_there : (t : Bool) (n l m : ℕ) → n ≤ l → cond (not t) (1 + n) 0 ≡ 1 + l → (n ≡ l → m ≡ 0) → cond t 1 0 + 2 * m ≡ 0
  none_there true n l m le e ih = let no : ⊥ = omega arith in absurd no
  none_there false n l m le e ih = let z = ih (omega arith) in omega arith

  -- where none is among bytes, their mask is 0
  no_marks : (xs : List ℕ) → position_or_len p xs ≡ length xs → mask_l (map p xs) ≡ 0
  no_marks [] e = refl
  no_marks (x ∷ xs) e = none_there (p x) _ (length xs) _ (prefix_len-le-length (λ y. not (p y)) xs) (omega arith) (no_marks xs)

  split : (xs : List ℕ) (i n : ℕ) → position_or_len p (drop i xs) ≡ cond (eqb (position_or_len p (chunk i n xs)) (length (chunk i n xs))) (length (chunk i n xs) + position_or_len p (drop (i + n) xs)) (position_or_len p (chunk i n xs))
  split xs i n = ap (position_or_len p) (chunk-drop i n xs) ∙ prefix_len-append (λ x. not (p x)) (chunk i n xs) (drop (i + n) xs)

  -- bytes of which the mask is 0 are passed over
  pub passed : (xs : List ℕ) (i n : ℕ) → i + n ≤ length xs → mask_l (map p (chunk i n xs)) ≡ 0 → position_or_len p (drop i xs) ≡ n + position_or_len p (drop (i + n) xs)
  passed xs i n room none =
      let c = chunk i n xs in
      split xs i n ∙ ap (λ t. cond t (length c + position_or_len p (drop (i + n) xs)) (position_or_len p c)) (eq-eqb _ _ (leading_from_mask_l p c none))
      ∙ ap (λ k. k + position_or_len p (drop (i + n) xs)) (length-chunk i n xs room)

  -- else the lowest bit tells of the first
  pub stopped : (xs : List ℕ) (i n : ℕ) → i + n ≤ length xs → n ≤ 64 → 0 < mask_l (map p (chunk i n xs)) → position_or_len p (drop i xs) ≡ count_trailing_zeros 64 (mask_l (map p (chunk i n xs)))
  stopped xs i n room short some =
      let c = chunk i n xs in
      split xs i n ∙ ap (λ t. cond t (length c + position_or_len p (drop (i + n) xs)) (position_or_len p c)) (ne_eqb _ _ (λ (e : position_or_len p c ≡ length c). omega (arith, no_marks c e)))
      ∙ sym (trailing_mask_l p 64 c (omega (arith, length-chunk i n xs room)) some)

  -- those of the next 64 bytes end at a place
  marks_to : (xs : List ℕ) (i : ℕ) → i ≤ length xs → mask_l (map p (take 64 (drop i xs))) ≡ mask_l (map p (chunk i (min (i + 64) (length xs) - i) xs))
  marks_to xs i inside =
      let size : min 64 (length (drop i xs)) ≡ min (i + 64) (length xs) - i = omega (arith, length-drop i xs) in
      ap (λ ys. mask_l (map p ys)) (sym (take_min 64 (drop i xs)) ∙ ap (λ n. take n (drop i xs)) size)

  -- up to a place: where no bit is set
  none_to : (xs : List ℕ) (i stop : ℕ) → i ≤ stop → stop ≤ length xs → mask_l (map p (chunk i (stop - i) xs)) ≡ 0
      → i + position_or_len p (drop i xs) ≡ stop + position_or_len p (drop stop xs)
  none_to xs i stop order inside none =
      let there : i + (stop - i) ≡ stop = omega arith in
      let pass = passed xs i (stop - i) (omega arith) none in
      omega (arith, pass, ap (λ j. position_or_len p (drop j xs)) there)

  -- where one is
  first_to : (xs : List ℕ) (i stop found : ℕ) → i ≤ stop → stop ≤ length xs → stop ≤ i + 64 → found ≡ mask_l (map p (chunk i (stop - i) xs)) → found ≢ 0
      → (position_or_len p (drop i xs) ≡ count_trailing_zeros 64 found) × (i + count_trailing_zeros 64 found < stop)
  first_to xs i stop found order inside near is some =
      let c = chunk i (stop - i) xs in
      let size = length-chunk i (stop - i) xs (omega arith) in
      let some_there : 0 < mask_l (map p c) = omega arith in
      let at_most : position_or_len p c ≤ length c = prefix_len-le-length (λ y. not (p y)) c in
      let differs : position_or_len p c ≢ length c = λ e. omega (arith, no_marks c e) in
      let same : count_trailing_zeros 64 found ≡ count_trailing_zeros 64 (mask_l (map p c)) = ap (count_trailing_zeros 64) is in
      let first : count_trailing_zeros 64 (mask_l (map p c)) ≡ position_or_len p c = trailing_mask_l p 64 c (omega (arith, size)) some_there in
      (stopped xs i (stop - i) (omega arith) (omega arith) some_there ∙ sym same, omega (arith, size, differs))

  -- the marks behind it
  behind_to : (xs : List ℕ) (i stop found k : ℕ) → i + k < stop → found ≡ mask_l (map p (chunk i (stop - i) xs)) → found / 2 ^ k / 2 ≡ mask_l (map p (chunk (i + k + 1) (stop - (i + k + 1)) xs))
  behind_to xs i stop found k lt is =
      let m = mask_l (map p (chunk i (stop - i) xs)) in
      let there : i + suc k ≡ i + k + 1 = omega arith in
      let left : stop - i - suc k ≡ stop - (i + k + 1) = omega arith in
      ap (λ f. f / 2 ^ k / 2) is
      ∙ div-div-eq-div-mul m (2 ^ k) 2
      ∙ ap (λ d. m / d) (sym (pow-suc 2 k))
      ∙ sym (shifted xs i (stop - i) (suc k) (omega arith))
      ∙ ap₂ (λ j l. mask_l (map p (chunk j l xs))) there left

  -- the marks up to a place, without the first of them
  abbrev pub left : List ℕ → ℕ → ℕ → ℕ → ℕ
  left xs at gone stop = mask_l (map p (chunk (at + gone) (stop - (at + gone)) xs)) * 2 ^ gone

  -- of the next 64 bytes
  pub all_left : (xs : List ℕ) (at : ℕ) → at ≤ length xs → mask_l (map p (take 64 (drop at xs))) ≡ left xs at 0 (min (at + 64) (length xs))
  all_left xs at inside =
      let stop = min (at + 64) (length xs) in
      let there : at ≡ at + 0 = omega arith in
      marks_to xs at inside ∙ ap (λ i. mask_l (map p (chunk i (stop - i) xs))) there ∙ sym (mul-one _)

  module _ (xs : List ℕ) (at gone stop found : ℕ) (order : at + gone ≤ stop) (inside : stop ≤ length xs) (near : stop ≤ at + 64) (is : found ≡ left xs at gone stop) where
    abbrev behind_gone : ℕ
    behind_gone = mask_l (map p (chunk (at + gone) (stop - (at + gone)) xs))

    -- where none is left
    pub none_left : found ≡ 0 → at + gone + position_or_len p (drop (at + gone) xs) ≡ stop + position_or_len p (drop stop xs)
    none_left none = none_to xs (at + gone) stop order inside (no_bits behind_gone gone (sym is ∙ none))

    module _ (some : found ≢ 0) (fits : found < 2 ^ 64) where
      some_behind : behind_gone ≢ 0
      some_behind e = some (is ∙ ap (λ m. m * 2 ^ gone) e ∙ zero-mul (2 ^ gone))

      small_behind : behind_gone < 2 ^ 64
      small_behind = omega (arith, up_le behind_gone gone, fits, is)

      fits_up : left xs at gone stop < 2 ^ 64
      fits_up = omega (arith, fits, is)

      some_up : 0 < left xs at gone stop
      some_up = omega (arith, some, is)

      first_behind : (position_or_len p (drop (at + gone) xs) ≡ count_trailing_zeros 64 behind_gone) × (at + gone + count_trailing_zeros 64 behind_gone < stop)
      first_behind = first_to xs (at + gone) stop behind_gone order inside (omega arith) refl some_behind

      lowest : count_trailing_zeros 64 found ≡ gone + count_trailing_zeros 64 behind_gone
      lowest = ap (count_trailing_zeros 64) is ∙ lowest_up behind_gone gone (omega (arith, some_behind)) small_behind fits_up some_up

      -- the first that is left
      pub first_left : (at + count_trailing_zeros 64 found ≡ at + gone + position_or_len p (drop (at + gone) xs)) × (at + count_trailing_zeros 64 found < stop)
      first_left = (omega (arith, lowest, first_behind), omega (arith, lowest, first_behind))

      -- those that are left then
      pub next_left : bit_and found (found - 1) ≡ left xs at (count_trailing_zeros 64 found + 1) stop
      next_left =
          let k = count_trailing_zeros 64 behind_gone in
          let there : at + gone + k + 1 ≡ at + (gone + k + 1) = omega arith in
          let place : gone + k + 1 ≡ count_trailing_zeros 64 found + 1 = omega (arith, lowest) in
          ap (λ n. bit_and n (n - 1)) is
          ∙ without_lowest_up behind_gone gone (omega (arith, some_behind)) small_behind fits_up some_up
          ∙ ap (λ m. m * 2 ^ (gone + k + 1)) (behind_to xs (at + gone) stop behind_gone k first_behind.1 refl ∙ ap (λ i. mask_l (map p (chunk i (stop - i) xs))) there)
          ∙ ap (λ n. left xs at n stop) place

  -- the next such byte is in the text, or the text ends there
  pub place_inside : (xs : List ℕ) (from : ℕ) → from ≤ length xs → from + position_or_len p (drop from xs) ≤ length xs
  place_inside xs from inside = omega (arith, prefix_len-le-length (λ y. not (p y)) (drop from xs), length-drop from xs)

  -- the next part of what is left, added
  pub part_next : (xs : List ℕ) (from end : ℕ) (before all : List (List ℕ)) → from ≤ length xs → end ≡ from + position_or_len p (drop from xs) → end < length xs
      → before ++ slice_split p (drop from xs) ≡ all → (before ++ slice_range xs from end ∷ []) ++ slice_split p (drop (end + 1) xs) ≡ all
  part_next xs from end before all order is more same =
      let rest = drop from xs in
      let n = position_or_len p rest in
      let size : end - from ≡ n = omega (arith, is) in
      let behind : from + (n + 1) ≡ end + 1 = omega (arith, is) in
      let first : slice_split p rest ≡ slice_range xs from end ∷ slice_split p (drop (end + 1) xs) =
      slice_split_first p rest 0 (omega (arith, length-drop from xs, is))
      ∙ ap₂ (λ k ys. take k rest ∷ slice_split p ys) (sym size) (drop-drop (n + 1) from xs ∙ ap (λ k. drop k xs) behind) in
      append_assoc before (slice_range xs from end ∷ []) (slice_split p (drop (end + 1) xs)) ∙ ap (λ ps. before ++ ps) (sym first) ∙ same

  -- the last one, which is left
  pub part_last : (xs : List ℕ) (from : ℕ) (before all : List (List ℕ)) → from ≤ length xs → length xs ≤ from + position_or_len p (drop from xs)
      → before ++ slice_split p (drop from xs) ≡ all → before ++ drop from xs ∷ [] ≡ all
  part_last xs from before all order none same =
      let alone : slice_split p (drop from xs) ≡ drop from xs ∷ [] =
      slice_split_none p (drop from xs) (λ k d low. fails_before_first p (drop from xs) k d (omega (arith, length-drop from xs))) in
      ap (λ ps. before ++ ps) (sym alone) ∙ same
