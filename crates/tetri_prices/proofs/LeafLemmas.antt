-- What a leaf is worth, so many times, is at most what it gains and what its grants are charged.
use Rattle.std.proofs.Common.{◌≡◌, ℕ, ◌+◌, ◌*◌, ◌-◌, ◌/◌, ◌<◌, ◌≤◌, ◌==◌, min, Bool, true, false, cond, nat_lt, List, [], ◌∷◌, Contains, refl, sym, ap, ◌∙◌, arith, le_trans, mul-zero, mul_comm, mul_assoc}
use Rattle.std.proofs.lemmas.Bool.Decides.{nat_tests}
use Rattle.tetri_base.specs.Lists.{sum_of, count, has, Each}
use Rattle.tetri_base.proofs.ListLaws.{eq_from_test, Each-both, Each-from, Each-map, sum_of-le}
use Rattle.tetri_strl.specs.declared.expr.Leaf.{Leaf}
use Rattle.tetri_strl.specs.declared.grants.Grant.{Grant}
use Rattle.tetri_strl.specs.Aligned.{EachLeaf}
use Rattle.tetri_strl.specs.Tree.{leaves}
use Rattle.tetri_strl.specs.WellMade.{IsGoodLeaf}
use Rattle.tetri_strl.specs.Worth.{granted, leaf_worth, worth_at}
use Rattle.tetri_strl.proofs.ExprLaws.{each_good, EachLeaf-both, EachLeaf-from, leaf_worth_le}
use Rattle.tetri_space.specs.Free.{is_free}
use Rattle.tetri_space.specs.Partitions.{available, is_closed_part, part_at, parts_in, set_at}
use Rattle.tetri_space.specs.Space.{Bid, Space}
use Rattle.tetri_compile.specs.Allotted.{suits}
use Rattle.tetri_compile.specs.declared.outline.Tally.{Tally}
use Rattle.tetri_compile.specs.Usable.{is_shut, usable_by}
use Rattle.tetri_compile.proofs.ProgramLaws.{any_in_range, free_below, good, granted_few, IsFair, IsRightFor, IsSpread, spread, supply_le}
use Rattle.tetri_prices.specs.Filling.{by_cost, fill}
use Rattle.tetri_prices.specs.Gain.{leaf_cost, leaf_gain, linear_gain, whole_gain}
use Rattle.tetri_prices.specs.Priced.{capacity, cost_for, gain_for, node_cost}
use Rattle.tetri_prices.proofs.FillLemmas.{fill_cheapest, Fits, pick_best, spent}
use Rattle.tetri_prices.proofs.SupplyLemmas.{charge, given}
use Rattle.tetri_prices.proofs.TreeLemmas.{IsPriced, some_factor}

-- ---- of counts within the rooms
module _ (cost capacity x : ℕ → ℕ) (ps : List ℕ) (fits : Fits cost capacity x ps) (l : Leaf) (n : ℕ) (few : n ≤ l.k) (all : sum_of x ps ≡ n) (m : ℕ) where
  linear_fits : m * (l.v / l.k * min l.k n) ≤ linear_gain cost capacity ps l m + spent cost capacity x ps
  linear_fits =
      let e : min l.k n ≡ n = omega (arith, few) in
      let turned : m * (l.v / l.k * min l.k n) ≡ sum_of x ps * (m * (l.v / l.k)) =
      ap (λ j. m * (l.v / l.k * j)) e ∙ sym (mul_assoc m (l.v / l.k) n) ∙ mul_comm (m * (l.v / l.k)) n ∙ ap (λ j. j * (m * (l.v / l.k))) (sym all) in
      omega (arith, turned, pick_best cost capacity x (m * (l.v / l.k)) l.k ps fits (omega (arith, few, all)))

  whole_fits : n ≡ l.k → m * l.v ≤ whole_gain cost capacity ps l m + spent cost capacity x ps
  whole_fits same =
      let enough : l.k ≤ sum_of capacity ps = omega (arith, sum_of-le x capacity ps fits, same, all) in
      let open_ : whole_gain cost capacity ps l m ≡ m * l.v - fill cost capacity l.k (by_cost cost capacity ps) =
      ap (λ b. cond b 0 (m * l.v - fill cost capacity l.k (by_cost cost capacity ps))) (not_short (sum_of capacity ps) l.k enough) in
      omega (arith, open_, fill_cheapest cost capacity x l.k ps fits (omega (arith, same, all)))
    where
      not_short : (i j : ℕ) → j ≤ i → nat_lt i j ≡ false
      not_short i j h = grind (arith, nat_tests)

  leaf_fits : m * worth_at l n ≤ leaf_gain cost capacity ps l m + spent cost capacity x ps
  leaf_fits = by_kind l.linear (n == l.k) (λ e. eq_from_test n l.k e)
    where
      by_kind : (linear same : Bool) → (same ≡ true → n ≡ l.k) →
          m * cond linear (l.v / l.k * min l.k n) (cond same l.v 0) ≤ cond linear (linear_gain cost capacity ps l m) (whole_gain cost capacity ps l m) + spent cost capacity x ps
      by_kind true same is = linear_fits
      by_kind false true is = whole_fits (is refl)
      by_kind false false is = omega (arith, mul-zero m)

  leaf_charged : 0 < worth_at l n → leaf_cost cost capacity ps l ≤ spent cost capacity x ps
  leaf_charged some = by_kind l.linear (n == l.k) (λ e. eq_from_test n l.k e) some
    where
      by_kind : (linear same : Bool) → (same ≡ true → n ≡ l.k) → 0 < cond linear (l.v / l.k * min l.k n) (cond same l.v 0) →
          fill cost capacity (cond linear 1 l.k) (by_cost cost capacity ps) ≤ spent cost capacity x ps
      by_kind true same is worth =
          let given_some : 0 < min l.k n = some_factor (l.v / l.k) (min l.k n) worth in
          fill_cheapest cost capacity x 1 ps fits (omega (arith, given_some, all))
      by_kind false true is worth = fill_cheapest cost capacity x l.k ps fits (omega (arith, is refl, all))
      by_kind false false is worth = absurd (omega (arith, worth))

-- ---- of fair grants
module _ (i : Space) (os : List Bid) (parts : List (List ℕ)) (a : List Grant) (keep : ℕ → List Grant) (fair : IsFair i os parts a keep) (b : Bid) (among : Contains os b) where
  abbrev gives : Leaf → ℕ → ℕ
  gives l p = given i os parts a keep fair b l p

  all_given : (l : Leaf) → Contains (leaves b.expr) l → IsGoodLeaf l → sum_of (gives l) (parts_in i parts l.set) ≡ granted a b.job l.num
  all_given l below leaf_good =
      spread b.job l.num (part_at parts) (parts_in i parts l.set) a
      (Each-map (λ g. suits b.job l.num g ≡ true → IsRightFor i l g.nodes) (IsSpread b.job l.num (part_at parts) (parts_in i parts l.set))
      (λ g r e. in_parts g (r e)) a (fair.right b l among below))
    where
      in_parts : (g : Grant) → IsRightFor i l g.nodes → Each (λ m. count (λ p. has (part_at parts p) m) (parts_in i parts l.set) ≡ 1) g.nodes
      in_parts g r =
          Each-both (λ m. has (set_at i l.set) m ≡ true) (λ m. (slot : ℕ) → l.start ≤ slot → slot < l.start + l.dur → is_free i m slot ≡ true)
          (λ m. count (λ p. has (part_at parts p) m) (parts_in i parts l.set) ≡ 1)
          (λ m s f. fair.covers b l among below m s (free_below i m l.start (f l.start (omega arith) (omega (arith, leaf_good.some_slots))))) g.nodes r.in_set r.idle

  -- what the leaf has of the partition is free in each of its slots
  free_at : (l : Leaf) (p t : ℕ) → Contains (leaves b.expr) l → Contains (parts_in i parts l.set) p → l.start ≤ t → t < l.start + l.dur → gives l p ≤ available i parts p t
  free_at l p t below within early late =
      let c : Tally = record { column = 0; job = b.job; leaf = l; part = p } in
      let row = supply_le i os parts a keep fair (λ j. gives l p) p t (c ∷ []) (
        record {
          told = record { bid = b; among = among; of_bid = record { job = refl; leaf = below; part = within }; reads = omega arith };
          part = refl;
          early = early;
          late = late;
        },
        tt,
      ) (tt, tt) in
      omega (arith, row)

  room_given : (l : Leaf) (p : ℕ) → Contains (leaves b.expr) l → IsGoodLeaf l → Contains (parts_in i parts l.set) p → gives l p ≤ usable_by i parts p l
  room_given l p below leaf_good within = by_shut (is_shut i parts p l) refl
    where
      by_shut : (c : Bool) → is_shut i parts p l ≡ c → gives l p ≤ cond c 0 (available i parts p l.start)
      by_shut false e = free_at l p l.start below within (omega arith) (omega (arith, leaf_good.some_slots))
      by_shut true e =
          let at = any_in_range (is_closed_part i parts p) l.start l.dur e in
          omega (arith, free_at l p at.slot below within at.low at.high, fair.closed_none p at.slot (le_trans (fair.early b l among below) at.low) at.passes)

  module _ (price : ℕ → ℕ → ℕ) where
    abbrev pub gains : Leaf → ℕ → ℕ
    gains = gain_for i parts price

    abbrev pub costs : Leaf → ℕ
    costs = cost_for i parts price

    abbrev pub charges : Leaf → ℕ
    charges = charge i os parts a keep fair price b

    module _ (l : Leaf) (below : Contains (leaves b.expr) l) (leaf_good : IsGoodLeaf l) where
      fits : Fits (node_cost i parts price l) (capacity i parts price l) (gives l) (parts_in i parts l.set)
      fits = Each-from (λ p. gives l p ≤ capacity i parts price l p) (parts_in i parts l.set) (λ p within. room_given l p below leaf_good within)

      few : granted a b.job l.num ≤ l.k
      few = granted_few i os parts a keep fair b among l below

      leaf_priced : IsPriced costs gains (leaf_worth a b.job) charges l
      leaf_priced = record {
        priced = leaf_fits (node_cost i parts price l) (capacity i parts price l) (gives l) (parts_in i parts l.set) fits l (granted a b.job l.num) few (all_given l below leaf_good);
        below = leaf_worth_le a b.job l leaf_good;
        paid = leaf_charged (node_cost i parts price l) (capacity i parts price l) (gives l) (parts_in i parts l.set) fits l (granted a b.job l.num) few (all_given l below leaf_good) 0;
      }

    pub all_priced : EachLeaf (IsPriced costs gains (leaf_worth a b.job) charges) b.expr
    all_priced =
        EachLeaf-both (λ l. IsGoodLeaf l → IsPriced costs gains (leaf_worth a b.job) charges l) IsGoodLeaf (IsPriced costs gains (leaf_worth a b.job) charges) (λ l f g. f g) b.expr
        (EachLeaf-from (λ l. IsGoodLeaf l → IsPriced costs gains (leaf_worth a b.job) charges l) b.expr leaf_priced) (each_good b.expr (good i os parts a keep fair b among).0)
