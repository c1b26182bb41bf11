-- What is gained is at most the tops, so that prices of 0 give a bound that is at most the sum of the tops.
use Rattle.std.proofs.Common.{◌≡◌, ℕ, ◌+◌, ◌*◌, ◌-◌, ◌/◌, ◌<◌, ◌≤◌, ◌&&◌, min, max, Bool, true, false, cond, nat_le, nat_lt, List, [], ◌∷◌, Option, Some, None, sym, ap, ◌∙◌, arith, mul-le-mul_left, mul-zero, zero-mul, mul-add, add-mul, mul_assoc, mul_comm, div-mul-le_self, ◌⊎◌, inl, inr}
use Rattle.std.specs.List.{sum_by}
use Rattle.std.proofs.Math.Nat.{div-le_of_le-mul}
use Rattle.std.proofs.lemmas.Bool.{cases_lt}
use Rattle.std.proofs.lemmas.Bool.Decides.{nat_tests}
use Rattle.std.proofs.lemmas.List.Sums.{sum_by-cons}
use Rattle.tetri_base.specs.Lists.{sum_of}
use Rattle.tetri_base.proofs.ListLaws.{Each-all, sum_of-eq, sum_of-zero}
use Rattle.tetri_strl.specs.declared.expr.Leaf.{Leaf}
use Rattle.tetri_strl.specs.Prune.{pruned, starts_in, worth_kept}
use Rattle.tetri_strl.specs.Tree.{greatest, least, added, Tree, one, join, scale, barrier, Trees, none, more, leaves}
use Rattle.tetri_strl.specs.Worth.{greatest_of, least_from, least_of, added_of, leaf_top, top_of, worths_by}
use Rattle.tetri_strl.proofs.ExprLaws.{EachLeaf-from, pruned_worth}
use Rattle.tetri_space.specs.Partitions.{available, bids_left, live_bids, partitions, parts_in, with_left}
use Rattle.tetri_space.specs.Space.{Bid, Space}
use Rattle.tetri_space.specs.Total.{bid_top, tops_in}
use Rattle.tetri_space.proofs.InstanceLaws.{AreFrom, left_leaves, OfLeft}
use Rattle.tetri_compile.specs.Walk.{best}
use Rattle.tetri_compile.proofs.ProgramLaws.{top_is_best}
use Rattle.tetri_prices.specs.Filling.{by_cost, fill, pick}
use Rattle.tetri_prices.specs.Gain.{gain, gains_of, leaf_gain, least_cost, least_costs, linear_gain}
use Rattle.tetri_prices.specs.Priced.{bid_gain, capacity, cost_for, gain_for, node_cost, part_numbers, supply_cost, window_slots, ZeroPricesBound}
use Rattle.tetri_prices.proofs.NetLemmas.{gross, net_gross}

-- ---- a leaf
pick_le : (cost free : ℕ → ℕ) (each k : ℕ) (ps : List ℕ) → pick cost free each k ps ≤ k * each
pick_le cost free each k [] = omega arith
pick_le cost free each k (p ∷ ps) =
    let split : k ≡ min k (free p) + (k - free p) = omega arith in
    let brings : each - cost p ≤ each = omega arith in
    let here : min k (free p) * (each - cost p) ≤ min k (free p) * each = mul-le-mul_left (min k (free p)) brings in
    omega (arith, here, pick_le cost free each (k - free p) ps, ap (λ n. n * each) split, add-mul (min k (free p)) (k - free p) each)

pub leaf_gain_le : (cost free : ℕ → ℕ) (ps : List ℕ) (l : Leaf) (m : ℕ) → leaf_gain cost free ps l m ≤ m * l.v
leaf_gain_le cost free ps l m = by_kind l.linear (nat_lt (sum_of free ps) l.k)
  where
    by_kind : (linear short : Bool) →
        cond linear (linear_gain cost free ps l m) (cond short 0 (m * l.v - fill cost free l.k (by_cost cost free ps))) ≤ m * l.v
    by_kind true short =
        let most : m * (l.v / l.k * l.k) ≤ m * l.v = mul-le-mul_left m (div-mul-le_self l.v l.k) in
        let turned : l.k * (m * (l.v / l.k)) ≡ m * (l.v / l.k * l.k) = mul_comm l.k (m * (l.v / l.k)) ∙ mul_assoc m (l.v / l.k) l.k in
        omega (arith, pick_le cost free (m * (l.v / l.k)) l.k (by_cost cost free ps), turned, most)
    by_kind false true = omega arith
    by_kind false false = omega arith

-- ---- an expression
times_max : (m x y : ℕ) → (m * x ≤ m * max x y) × (m * y ≤ m * max x y)
times_max m x y =
    let left : x ≤ max x y = omega arith in
    let right : y ≤ max x y = omega arith in
    (mul-le-mul_left m left, mul-le-mul_left m right)

times_min : (m x y : ℕ) → min (m * x) (m * y) ≤ m * min x y
times_min m x y = by_order (cases_lt x y)
  where
    by_order : (x < y) ⊎ (y ≤ x) → min (m * x) (m * y) ≤ m * min x y
    by_order (inl lt) = let e : min x y ≡ x = omega arith in omega (arith, ap (λ n. m * n) e)
    by_order (inr le) = let e : min x y ≡ y = omega arith in omega (arith, ap (λ n. m * n) e)

barred : (m v k g : ℕ) (b : Bool) → cond b (min (m * v - k) g) 0 ≤ m * cond b v 0
barred m v k g true = omega arith
barred m v k g false = omega arith

module _ (costs : Leaf → ℕ) (gains : Leaf → ℕ → ℕ) (below : (l : Leaf) (m : ℕ) → gains l m ≤ m * l.v) where
  abbrev bests : Trees → List ℕ
  bests ts = worths_by (λ l. l.v) ts

  mutual
    pub gain_le : (t : Tree) (m : ℕ) → gain costs gains t m ≤ m * best t
    gain_le (one l) m = below l m
    gain_le (join greatest ts) m = greatest_le ts m
    gain_le (join least ts) m = least_le ts m
    gain_le (join added ts) m = added_le ts m
    gain_le (scale t s) m = omega (arith, gain_le t (m * s), mul_assoc m s (best t))
    gain_le (barrier t v) m = barred m v (least_cost costs t) (gain costs gains t m) (nat_le v (best t))

    greatest_le : (ts : Trees) (m : ℕ) → greatest_of (gains_of costs gains ts m) ≤ m * greatest_of (bests ts)
    greatest_le none m = omega (arith, mul-zero m)
    greatest_le (more t ts) m =
        let both = times_max m (best t) (greatest_of (bests ts)) in omega (arith, gain_le t m, greatest_le ts m, both.0, both.1)

    added_le : (ts : Trees) (m : ℕ) → added_of (gains_of costs gains ts m) ≤ m * added_of (bests ts)
    added_le none m = omega (arith, mul-zero m)
    added_le (more t ts) m = omega (arith, gain_le t m, added_le ts m, mul-add m (best t) (added_of (bests ts)))

    least_le : (ts : Trees) (m : ℕ) → gain costs gains (join least ts) m ≤ m * least_of (bests ts)
    least_le none m = omega (arith, mul-zero m)
    least_le (more t ts) m =
        let from = least_from_le ts m (gain costs gains t m + least_cost costs t) (best t) (least_cost costs t) (omega (arith, gain_le t m)) in
        omega (arith, from, net_gross (gains_of costs gains (more t ts) m) (least_costs costs (more t ts)))

    least_from_le : (ts : Trees) (m g w k : ℕ) → g ≤ m * w + k →
        least_from g (gross (gains_of costs gains ts m) (least_costs costs ts)) ≤ m * least_from w (bests ts) + (k + added_of (least_costs costs ts))
    least_from_le none m g w k le = omega (arith, le)
    least_from_le (more t ts) m g w k le =
        let rest = least_from_le ts m (min g (gain costs gains t m + least_cost costs t)) (min w (best t)) (k + least_cost costs t) (omega (arith, le, gain_le t m, times_min m w (best t))) in
        omega (arith, rest)

-- ---- all bids
module _ (from to : ℕ) where
  in_range : (l : Leaf) → starts_in from to l ≡ true → (from ≤ l.start) × (l.start < to)
  in_range l e = (low l.start e, high l.start e)
    where
      low : (n : ℕ) → (nat_le from n && nat_lt n to) ≡ true → from ≤ n
      low n e = grind (arith, nat_tests)

      high : (n : ℕ) → (nat_le from n && nat_lt n to) ≡ true → n < to
      high n e = grind (arith, nat_tests)

  top_of_leaf : (l : Leaf) → starts_in from to l ≡ false → leaf_top from to l ≡ 0
  top_of_leaf l e = ap (λ b. cond b l.v 0) e

  -- the top of what is left is that of the whole
  left_top : (t : Tree) → OfLeft (λ u. best u ≡ top_of from to t) (pruned from to t)
  left_top t = by_left (pruned from to t) (left_leaves from to t) (pruned_worth (leaf_top from to) from to t (EachLeaf-from _ t (λ l at. top_of_leaf l)))
    where
      by_left : (o : Option Tree) → OfLeft (λ u. AreFrom from to (leaves t) (leaves u)) o → worth_kept (leaf_top from to) o ≡ top_of from to t → OfLeft (λ u. best u ≡ top_of from to t) o
      by_left None h e = tt
      by_left (Some u) h e = sym (top_is_best from to u (EachLeaf-from _ u (λ l at. in_range l (h l at).1))) ∙ e

  module _ (costs : Leaf → ℕ) (gains : Leaf → ℕ → ℕ) (below : (l : Leaf) (m : ℕ) → gains l m ≤ m * l.v) (unit : ℕ) where
    lefts_le : (bs : List Bid) → sum_of (λ b. gain costs gains b.expr unit) (bids_left from to bs) ≤ unit * sum_by (bid_top from to) bs
    lefts_le [] = omega (arith, mul-zero unit)
    lefts_le (b ∷ bs) =
        omega (
          arith,
          by_left (pruned from to b.expr) (left_top b.expr),
          ap (λ n. unit * n) (sum_by-cons (bid_top from to) b bs),
          mul-add unit (bid_top from to b) (sum_by (bid_top from to) bs),
          lefts_le bs,
        )
      where
        by_left : (o : Option Tree) → OfLeft (λ u. best u ≡ top_of from to b.expr) o →
            sum_of (λ c. gain costs gains c.expr unit) (with_left b.job o (bids_left from to bs)) ≤ unit * bid_top from to b + sum_of (λ c. gain costs gains c.expr unit) (bids_left from to bs)
        by_left None h = omega arith
        by_left (Some u) h = omega (arith, gain_le costs gains below u unit, ap (λ n. unit * n) h)

module _ (s : Space) (price : ℕ → ℕ → ℕ) (unit : ℕ) where
  pub gains_le_tops : sum_of (bid_gain s (partitions s) price unit) (live_bids s) ≤ unit * tops_in s
  gains_le_tops =
      lefts_le s.now (s.now + s.window) (cost_for s (partitions s) price) (gain_for s (partitions s) price) (λ l m. leaf_gain_le (node_cost s (partitions s) price l) (capacity s (partitions s) price l) (parts_in s (partitions s) l.set) l m) unit s.bids

-- prices of 0
free_supply_cost : (s : Space) (parts : List (List ℕ)) → supply_cost s parts (λ p t. 0) ≡ 0
free_supply_cost s parts =
    sum_of-eq (λ p. sum_of (λ t. 0 * available s parts p t) (window_slots s)) (λ p. 0) (part_numbers parts)
    (Each-all _ (λ p. sum_of-eq (λ t. 0 * available s parts p t) (λ t. 0) (window_slots s) (Each-all _ (λ t. zero-mul (available s parts p t)) (window_slots s)) ∙ sum_of-zero (window_slots s)) (part_numbers parts))
    ∙ sum_of-zero (part_numbers parts)

pub zero_prices : (s : Space) → ZeroPricesBound s
zero_prices s unit =
    div-le_of_le-mul unit (omega (arith, gains_le_tops s (λ p t. 0) unit, free_supply_cost s (partitions s)))
