-- Steps of the loop over what is left of the bids.
use Rattle.std.proofs.Common.{◌≡◌, ℕ, ◌+◌, ◌*◌, ◌<◌, ◌≤◌, ◌^◌, List, ◌∷◌, length, get_or, drop, map, sym, ap, ◌∙◌, subst, arith}
use Rattle.std.proofs.lemmas.List.{drop_more}
use Rattle.std.proofs.lemmas.List.Elements.{All-contains}
use Rattle.std.proofs.lemmas.Nat.{mul-le}
use Rattle.tetri_base.specs.Lists.{Each, sum_of}
use Rattle.tetri_base.proofs.ListLaws.{Each-at, Each-both, Each-from}
use Rattle.tetri_strl.specs.Aligned.{EachLeaf}
use Rattle.tetri_strl.specs.WellMade.{IsSound, PEAK, peak}
use Rattle.tetri_strl.specs.Tree.{barrier, join, leaves, one, scale, Tree}
use Rattle.tetri_space.specs.Partitions.{ArePartitionsOf, live_bids, Parts, partitions}
use Rattle.tetri_space.specs.Sound.{IsSound as IsSoundSpace, IsSoundBid}
use Rattle.tetri_space.specs.Space.{Bid, Space}
use Rattle.tetri_space.specs.Total.{tops_in}
use Rattle.tetri_space.proofs.InstanceLaws.{each_left_of, IsLeftOf, IsSmaller, left_smaller, OfLeft, tops_limit}
use Rattle.tetri_compile.specs.steps.Walked.{IsReady}
use Rattle.tetri_compile.proofs.ProgramLaws.{bids_ready}
use Rattle.tetri_prices.specs.Priced.{bid_gain}
use Rattle.tetri_prices.proofs.TopLemmas.{gains_le_tops}

-- a bid whose leaves are live, have partitions and are few
pub record IsReadyBid (s : Space) (p : Parts) (b : Bid) : Type 0 where
  pub sound : IsSound b.expr
  pub ready : EachLeaf (IsReady s p) b.expr
  pub few : length (leaves b.expr) ≤ 128

bids_few : (s : Space) → IsSoundSpace s → Each (λ b. length (leaves b.expr) ≤ 128) (live_bids s)
bids_few s sound = Each-from (λ b. length (leaves b.expr) ≤ 128) (live_bids s) (λ b at. from_left b (Each-at (IsLeftOf s.now (s.now + s.window) s.bids) (live_bids s) b (each_left_of s.now (s.now + s.window) s.bids) at))
  where
    from_left : (b : Bid) → IsLeftOf s.now (s.now + s.window) s.bids b → length (leaves b.expr) ≤ 128
    from_left b h =
        let whole = All-contains (IsSoundBid s) s.bids h.whole sound.sound_bids h.among in
        let less = subst (OfLeft (IsSmaller h.whole.expr)) h.left (left_smaller s.now (s.now + s.window) h.whole.expr) in
        omega (arith, less.leaves_le, whole.well_made.few_leaves)

pub all_ready : (s : Space) → IsSoundSpace s → (p : Parts) → ArePartitionsOf s p → Each (IsReadyBid s p) p.bids
all_ready s sound p are =
    Each-both (λ b. IsSound b.expr × EachLeaf (IsReady s p) b.expr) (λ b. length (leaves b.expr) ≤ 128) (IsReadyBid s p)
    (λ b ready few. record { sound = ready.0; ready = ready.1; few = few }) p.bids
    (bids_ready s sound p are) (subst (Each (λ b. length (leaves b.expr) ≤ 128)) (sym are.bids) (bids_few s sound))

module _ {X : Type 0} (read : X → Bid) (xs : List X) (i : ℕ) (x : X) (short : i < length xs) (is : x ≡ get_or xs i x) where
  next : map read (drop i xs) ≡ read x ∷ map read (drop (i + 1) xs)
  next = ap (map read) (drop_more xs i x short) ∙ ap (λ y. read y ∷ map read (drop (i + 1) xs)) (sym is)

  pub first_part : (f : Bid → ℕ) → sum_of f (map read (drop i xs)) ≡ f (read x) + sum_of f (map read (drop (i + 1) xs))
  first_part f = ap (sum_of f) next

  pub first_holds : (P : Bid → Type 0) → Each P (map read (drop i xs)) → P (read x) × Each P (map read (drop (i + 1) xs))
  first_holds P h = subst (Each P) next h

peak_le : (t : Tree) → IsSound t → peak t ≤ PEAK
peak_le (one l) sound = sound.1
peak_le (join op ts) sound = sound.2
peak_le (scale t s) sound = sound.2
peak_le (barrier t v) sound = omega (arith, peak_le t sound.0, sound.1)

pub factor_small : (t : Tree) → IsSound t → (unit times : ℕ) → times ≡ unit → unit ≤ 2 ^ 20 → times * peak t ≤ 2 ^ 80
factor_small t sound unit times is few = omega (arith, mul-le unit (peak t) (2 ^ 20) PEAK few (peak_le t sound), ap (λ n. n * peak t) is)

pub gains_small : (s : Space) → IsSoundSpace s → (price : ℕ → ℕ → ℕ) (unit : ℕ) → unit ≤ 2 ^ 20 → sum_of (bid_gain s (partitions s) price unit) (live_bids s) ≤ 2 ^ 120
gains_small s sound price unit few = omega (arith, gains_le_tops s price unit, mul-le unit (tops_in s) (2 ^ 20) 100000000000000000 few (tops_limit s sound))
