-- What a node costs a leaf is a difference of two prefix sums.
use Rattle.std.proofs.Common.{◌≡◌, ℕ, ◌+◌, ◌-◌, ◌^◌, length, ◌<◌, ◌≤◌, ◌&&◌, min, true, false, cond, nat_lt, nat_le, List, [], get_or, ap, ◌∙◌, arith}
use Rattle.std.specs.List.{range_with_len}
use Rattle.std.proofs.lemmas.Bool.Decides.{nat_tests}
use Rattle.tetri_base.specs.Lists.{sum_of}
use Rattle.tetri_base.proofs.ListLaws.{sum_of-zero}
use Rattle.tetri_strl.specs.declared.expr.Leaf.{Leaf}
use Rattle.tetri_compile.specs.Sizes.{covers}
use Rattle.tetri_base.specs.Lists.{list_at}
use Rattle.tetri_space.specs.Partitions.{partitions}
use Rattle.tetri_space.specs.Sound.{IsSound}
use Rattle.tetri_space.specs.Space.{IsLive, Space}
use Rattle.tetri_prices.specs.declared.prices.Prices.{Prices}
use Rattle.tetri_prices.specs.Priced.{listed, node_cost}
use Rattle.tetri_prices.specs.Prices.{ArePrices, rows_of}
use Rattle.tetri_prices.proofs.LoopLemmas.{range_same, range_shift, range_split}

-- a slot before the leaf, in it, and behind it
early : (start dur t : ℕ) → t < start → (nat_le start t && nat_lt t (start + dur)) ≡ false
early start dur t h = grind (arith, nat_tests)

within : (start dur t : ℕ) → start ≤ t → t < start + dur → (nat_le start t && nat_lt t (start + dur)) ≡ true
within start dur t h k = grind (arith, nat_tests)

late : (start dur t : ℕ) → start + dur ≤ t → (nat_le start t && nat_lt t (start + dur)) ≡ false
late start dur t h = grind (arith, nat_tests)

-- `from` and `to` are places in the window
module _ (f : ℕ → ℕ) (l : Leaf) (now window from to : ℕ) (begins : l.start ≡ now + from) (inside : from < window) (ends : to ≡ min (from + l.dur) window) where
  abbrev at : ℕ → ℕ
  at t = cond (covers l t) (f (t - now)) 0

  nothing : (a n : ℕ) → ((t : ℕ) → a ≤ t → t < a + n → covers l t ≡ false) → sum_of at (range_with_len a n) ≡ 0
  nothing a n off = range_same at (λ t. 0) a n (λ t low high. ap (λ b. cond b (f (t - now)) 0) (off t low high)) ∙ sum_of-zero (range_with_len a n)

  all_in : (a n : ℕ) → ((t : ℕ) → a ≤ t → t < a + n → covers l t ≡ true) → sum_of at (range_with_len a n) ≡ sum_of (λ t. f (t - now)) (range_with_len a n)
  all_in a n on = range_same at (λ t. f (t - now)) a n (λ t low high. ap (λ b. cond b (f (t - now)) 0) (on t low high))

  -- the sum over the window is that from `from` to `to`
  covered : sum_of at (range_with_len now window) ≡ sum_of f (range_with_len from (to - from))
  covered =
      let whole : window ≡ from + (to - from + (window - to)) = omega (arith, ends, inside) in
      let before = nothing now from (λ t low high. early l.start l.dur t (omega (arith, high, begins))) in
      let during = all_in (now + from) (to - from) (λ t low high. within l.start l.dur t (omega (arith, low, begins)) (omega (arith, high, begins, ends, inside))) in
      let after = nothing (now + from + (to - from)) (window - to) (λ t low high. late l.start l.dur t (omega (arith, low, high, begins, ends, inside))) in
      ap (λ n. sum_of at (range_with_len now n)) whole
      ∙ range_split at now from (to - from + (window - to))
      ∙ omega (arith, before, range_split at (now + from) (to - from) (window - to), during, after, range_shift f now from (to - from))

  -- and so the difference of the sums of the first prices
  pub cost_between : (low high : ℕ) → low ≡ sum_of f (range_with_len 0 from) → high ≡ sum_of f (range_with_len 0 to) →
      (low ≤ high) × (high - low ≡ sum_of at (range_with_len now window))
  cost_between low high is_low is_high =
      let whole : to ≡ from + (to - from) = omega (arith, ends, inside) in
      let zero_from : 0 + from ≡ from = omega arith in
      let split = ap (λ n. sum_of f (range_with_len 0 n)) whole ∙ range_split f 0 from (to - from) in
      let first : sum_of f (range_with_len 0 to) ≡ sum_of f (range_with_len 0 from) + sum_of f (range_with_len from (to - from)) =
      omega (arith, split, ap (λ k. sum_of f (range_with_len k (to - from))) zero_from) in
      (omega (arith, first, is_low, is_high), omega (arith, first, is_low, is_high, covered))

-- ---- what the prefix sums of a partition say of a leaf
pub record IsFound (s : Space) (l : Leaf) (p : ℕ) (prices : Prices) (sums : List ℕ) (from to : ℕ) : Type 0 where
  pub from_within : from < length sums
  pub to_within : to < length sums
  pub rises : get_or sums from 0 ≤ get_or sums to 0
  pub cost : get_or sums to 0 - get_or sums from 0 ≡ node_cost s (partitions s) (listed s.now (rows_of prices)) l p
  pub small : get_or sums to 0 ≤ 2 ^ 70

pub found : (s : Space) → IsSound s → (l : Leaf) (p : ℕ) (prices : Prices) → ArePrices s prices → p < length (partitions s) → IsLive s l →
    (sums : List ℕ) → sums ≡ list_at prices.sums.items p → (from to : ℕ) → from ≡ l.start - s.now → to ≡ min (from + l.dur) s.window → IsFound s l p prices sums from to
found s sound l p prices are there live sums same from to begins ends =
    let row = list_at prices.rows.items p in
    let h = are.each p there in
    let long : length row ≡ s.window = are.rows.long p [] (omega (arith, there, are.rows.count)) in
    let many : length sums ≡ s.window + 1 = omega (arith, ap (λ (ns : List ℕ). length ns) same, h.long, long) in
    let low = h.each from (omega (arith, long, begins, live.not_early, live.not_late)) in
    let high = h.each to (omega (arith, long, ends)) in
    let is_low : get_or sums from 0 ≡ sum_of (λ k. get_or row k 0) (range_with_len 0 from) = ap (λ (ns : List ℕ). get_or ns from 0) same ∙ low.sum in
    let is_high : get_or sums to 0 ≡ sum_of (λ k. get_or row k 0) (range_with_len 0 to) = ap (λ (ns : List ℕ). get_or ns to 0) same ∙ high.sum in
    let between = cost_between (λ k. get_or row k 0) l s.now s.window from to (omega (arith, begins, live.not_early)) (omega (arith, begins, live.not_early, live.not_late)) ends (get_or sums from 0) (get_or sums to 0) is_low is_high in
    record {
      from_within = omega (arith, many, begins, live.not_early, live.not_late);
      to_within = omega (arith, many, ends);
      rises = between.0;
      cost = between.1;
      small = omega (arith, ap (λ (ns : List ℕ). get_or ns to 0) same, high.small, ends, sound.few_slots);
    }
