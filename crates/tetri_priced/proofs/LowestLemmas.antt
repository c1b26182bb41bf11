-- Prices above 0, partition by partition and slot by slot.
use Rattle.std.proofs.Common.{◌≡◌, ℕ, suc, ◌+◌, ◌-◌, ◌<◌, ◌≤◌, List, [], ◌∷◌, ◌++◌, length, get_or, sym, ap, ◌∙◌, arith, append_assoc}
use Rattle.std.proofs.Math.Nat.{pos_of_dvd_of_pos}
use Rattle.std.proofs.lemmas.Grind.{flat_map-append}
use Rattle.std.proofs.lemmas.List.{append-nil}
use Rattle.std.proofs.lemmas.Nat.Gcd.{le_of_dvd}
use Rattle.std.specs.Prelude.{flat_map}
use Rattle.std.specs.List.{range_with_len}
use Rattle.tetri_algebra.specs.Gcd.{gcd_of}
use Rattle.tetri_algebra.specs.Coprime.{IsGcd-gcd_of}
use Rattle.tetri_prices.specs.Priced.{ArePricesOf}
use Rattle.tetri_space.proofs.InstanceLaws.{range_push}
use Rattle.tetri_space.specs.Partitions.{partitions}
use Rattle.tetri_space.specs.Space.{Space}
use Rattle.tetri_priced.specs.Lowest.{above_zero, least_node, part_prices}

-- what a range gives, and one number more
pub flat_map_push : {X : Type 0} (f : ℕ → List X) (from n : ℕ) → flat_map f (range_with_len from (n + 1)) ≡ flat_map f (range_with_len from n) ++ f (from + n)
flat_map_push f from n =
    let more : n + 1 ≡ suc n = omega arith in
    ap (λ k. flat_map f (range_with_len from k)) more
    ∙ ap (flat_map f) (range_push from n) ∙ flat_map-append f (range_with_len from n) ((from + n) ∷ []) ∙ ap (λ xs. flat_map f (range_with_len from n) ++ xs) (append-nil (f (from + n)))

-- what was added so far, and what one number more adds
pub added_next : {X : Type 0} (f : ℕ → List X) (from n : ℕ) (first before after own : List X) → before ≡ first ++ flat_map f (range_with_len from n) → after ≡ before ++ own → own ≡ f (from + n) →
    after ≡ first ++ flat_map f (range_with_len from (n + 1))
added_next f from n first before after own so_far grown is =
    grown ∙ ap (λ xs. xs ++ own) so_far ∙ ap (λ xs. (first ++ flat_map f (range_with_len from n)) ++ xs) is
    ∙ append_assoc first (flat_map f (range_with_len from n)) (f (from + n)) ∙ ap (λ xs. first ++ xs) (sym (flat_map_push f from n))

-- the prices of a partition whose least node and whose row these are
pub part_is : (s : Space) (unit : ℕ) (rows : List (List ℕ)) (part node : ℕ) (row : List ℕ) → node ≡ least_node s part → row ≡ get_or rows part [] → length row ≡ s.window →
    flat_map (λ t. above_zero node unit t (get_or row (t - s.now) 0)) (range_with_len s.now (length row)) ≡ part_prices s unit rows part
part_is s unit rows part node row least is long =
    ap (λ k. flat_map (λ t. above_zero node unit t (get_or row (t - s.now) 0)) (range_with_len s.now k)) long
    ∙ ap (λ n. flat_map (λ t. above_zero n unit t (get_or row (t - s.now) 0)) (range_with_len s.now s.window)) least
    ∙ ap (λ (xs : List ℕ). flat_map (λ t. above_zero (least_node s part) unit t (get_or xs (t - s.now) 0)) (range_with_len s.now s.window)) is

-- a row has a price for each slot
pub row_long : (s : Space) (rows : List (List ℕ)) (part : ℕ) (row : List ℕ) → ArePricesOf s rows → part < length (partitions s) → row ≡ get_or rows part [] → length row ≡ s.window
row_long s rows part row are lt is =
    let there : part < length rows = omega (arith, are.count) in
    ap length is ∙ are.long part [] there

-- what a divisor of a word is
pub divisor_small : (a b : ℕ) → 0 < b → (gcd_of a b ≤ b) × (0 < gcd_of a b)
divisor_small a b some = (le_of_dvd some (IsGcd-gcd_of a b).1, pos_of_dvd_of_pos (IsGcd-gcd_of a b).1 some)
