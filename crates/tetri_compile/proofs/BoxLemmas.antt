-- The marks and counts of fair grants lie in the program's box.
use Rattle.std.proofs.Common.{ℕ, ◌+◌, ◌<◌, ◌≤◌, min, Bool, true, false, cond, List, [], ◌∷◌, ◌++◌, length, map, Contains, refl, arith, le_trans, ◌≡◌}
use Rattle.tetri_strl.specs.declared.expr.Leaf.{Leaf}
use Rattle.tetri_strl.specs.declared.grants.Grant.{Grant}
use Rattle.tetri_strl.specs.Aligned.{EachLeaf, EachLeafOf}
use Rattle.tetri_strl.specs.Tree.{Operator, greatest, least, added, Tree, one, join, scale, barrier, Trees, none, more, leaves}
use Rattle.tetri_strl.specs.WellMade.{IsGoodLeaf}
use Rattle.tetri_strl.specs.Worth.{worth_of, worth_by, worths_by}
use Rattle.tetri_strl.proofs.ExprLaws.{AreBelow, EachLeaf-from, EachLeaf-both, each_good}
use Rattle.tetri_base.specs.Lists.{count, has, Each}
use Rattle.tetri_space.specs.Partitions.{available, is_closed_part, part_at}
use Rattle.tetri_space.specs.Space.{Bid, Space}
use Rattle.tetri_base.proofs.ListLaws.{sum_of-le, bit-le, Each-from, Each-all}
use Rattle.tetri_compile.specs.Allotted.{suits, granted_in, values_of_bids}
use Rattle.tetri_compile.specs.declared.outline.Tally.{Tally}
use Rattle.tetri_compile.specs.Draft.{bid_uppers}
use Rattle.tetri_compile.specs.Marks.{mark, own_values, values, values_of}
use Rattle.tetri_compile.specs.Usable.{is_shut}
use Rattle.tetri_compile.specs.Walk.{ones, own_uppers, uppers, uppers_of}
use Rattle.tetri_compile.proofs.FairLemmas.{inside, room, usable, IsFair, kept, taken, value, held, all_right, granted_le, granted_few, granted_total, kept-le, supply_le, good}
use Rattle.tetri_compile.proofs.SlotLemmas.{any_in_range}
use Rattle.tetri_compile.proofs.WalkLemmas.{IsRight, mark-le, worth_le_best}

count_le_length : {X : Type 0} (p : X → Bool) (xs : List X) → count p xs ≤ length xs
count_le_length p [] = omega arith
count_le_length p (x ∷ xs) = omega (arith, bit-le (p x), count_le_length p xs)

pub below-append : (xs us ys vs : List ℕ) → AreBelow xs us → AreBelow ys vs → AreBelow (xs ++ ys) (us ++ vs)
below-append [] [] ys vs h k = k
below-append [] (u ∷ us) ys vs h k = absurd h
below-append (x ∷ xs) [] ys vs h k = absurd h
below-append (x ∷ xs) (u ∷ us) ys vs h k = (h.0, below-append xs us ys vs h.1 k)

below-map : {X : Type 0} (f g : X → ℕ) (xs : List X) → Each (λ x. f x ≤ g x) xs → AreBelow (map f xs) (map g xs)
below-map f g [] h = tt
below-map f g (x ∷ xs) h = (h.0, below-map f g xs h.1)

module _ (ins : ℕ → List ℕ) (rm : ℕ → Leaf → ℕ) (val : Leaf → ℕ) (tak : Leaf → ℕ → ℕ) (hel : List ℕ) where
  abbrev pub IsRoomy : Leaf → Type 0
  IsRoomy l = Each (λ p. tak l p ≤ min l.k (rm p l)) (ins l.set)

  marks_below : (ts : Trees) → AreBelow (map mark (worths_by val ts)) (ones ts)
  marks_below none = tt
  marks_below (more t ts) = (mark-le (worth_by val t), marks_below ts)

  own_below : (op : Operator) (ts : Trees) → EachLeaf (IsRight ins rm val tak hel) (join op ts) → AreBelow (own_values ins val tak op ts) (own_uppers ins rm op ts)
  own_below greatest ts h = marks_below ts
  own_below least ts h = (worth_le_best ins rm val tak hel (join least ts) h, tt)
  own_below added ts h = marks_below ts

  mutual
    pub values_below : (t : Tree) → EachLeaf (IsRight ins rm val tak hel) t → EachLeaf IsRoomy t → AreBelow (values ins val tak t) (uppers ins rm t)
    values_below (one l) h k = below-map (tak l) (λ p. min l.k (rm p l)) (ins l.set) k
    values_below (join op ts) h k = below-append (own_values ins val tak op ts) (own_uppers ins rm op ts) (values_of ins val tak ts) (uppers_of ins rm ts) (own_below op ts h) (values_below_of ts h k)
    values_below (scale t s) h k = values_below t h k
    values_below (barrier t v) h k = values_below t h k

    values_below_of : (ts : Trees) → EachLeafOf (IsRight ins rm val tak hel) ts → EachLeafOf IsRoomy ts → AreBelow (values_of ins val tak ts) (uppers_of ins rm ts)
    values_below_of none h k = tt
    values_below_of (more t ts) h k = below-append (values ins val tak t) (uppers ins rm t) (values_of ins val tak ts) (uppers_of ins rm ts) (values_below t h.0 k.0) (values_below_of ts h.1 k.1)

module _ (i : Space) (os : List Bid) (parts : List (List ℕ)) (a : List Grant) (keep : ℕ → List Grant) (fair : IsFair i os parts a keep) where
  module _ (b : Bid) (among : Contains os b) where
    abbrev gives : Leaf → ℕ → ℕ
    gives l p = taken i os parts a keep fair b among l p

    few_given : (l : Leaf) (p : ℕ) → Contains (leaves b.expr) l → gives l p ≤ l.k
    few_given l p below =
        let ks = kept i os parts a keep fair b among in
        let f = sum_of-le (λ g. cond (suits b.job l.num g) (count (has (part_at parts p)) g.nodes) 0) (λ g. cond (suits b.job l.num g) (length g.nodes) 0) ks
        (Each-all _ (λ g. by_test (suits b.job l.num g) g) ks) in
        omega (arith, f, granted_total ks b.job l.num, granted_le i os parts a keep fair b among l.num, granted_few i os parts a keep fair b among l below)
      where
        by_test : (t : Bool) (g : Grant) → cond t (count (has (part_at parts p)) g.nodes) 0 ≤ cond t (length g.nodes) 0
        by_test true g = count_le_length (has (part_at parts p)) g.nodes
        by_test false g = omega arith

    -- what the leaf has of the partition is free in each of its slots
    free_at : (l : Leaf) (p t : ℕ) → Contains (leaves b.expr) l → Contains (inside i os parts a keep l.set) p → l.start ≤ t → t < l.start + l.dur → gives l p ≤ room i os parts a keep p t
    free_at l p t below within early late =
        let whole = granted_in a b.job l.num (part_at parts p) in
        let c : Tally = record { column = 0; job = b.job; leaf = l; part = p } in
        let row = supply_le i os parts a keep fair (λ j. whole) p t (c ∷ []) (
          record {
            told = record { bid = b; among = among; of_bid = record { job = refl; leaf = below; part = within }; reads = omega arith };
            part = refl;
            early = early;
            late = late;
          },
          tt,
        ) (tt, tt) in
        omega (arith, row, kept-le i os parts a keep fair b among (λ g. cond (suits b.job l.num g) (count (has (part_at parts p)) g.nodes) 0))

    usable_given : (l : Leaf) (p : ℕ) → Contains (leaves b.expr) l → IsGoodLeaf l → Contains (inside i os parts a keep l.set) p → gives l p ≤ usable i os parts a keep p l
    usable_given l p below leaf_good within = by_shut (is_shut i parts p l) refl
      where
        by_shut : (c : Bool) → is_shut i parts p l ≡ c → gives l p ≤ cond c 0 (available i parts p l.start)
        by_shut false e = free_at l p l.start below within (omega arith) (omega (arith, leaf_good.some_slots))
        by_shut true e =
            let at = any_in_range (is_closed_part i parts p) l.start l.dur e in
            omega (arith, free_at l p at.slot below within at.low at.high, fair.closed_none p at.slot (le_trans (fair.early b l among below) at.low) at.passes)

    bid_below : AreBelow (values (inside i os parts a keep) (value i os parts a keep fair b among) gives b.expr) (uppers (inside i os parts a keep) (usable i os parts a keep) b.expr)
    bid_below =
        values_below (inside i os parts a keep) (usable i os parts a keep) (value i os parts a keep fair b among) gives (held i os parts a keep fair b among) b.expr (all_right i os parts a keep fair b among)
        (EachLeaf-both (λ l. IsGoodLeaf l → Each (λ p. gives l p ≤ min l.k (usable i os parts a keep p l)) (inside i os parts a keep l.set)) IsGoodLeaf
        (λ l. Each (λ p. gives l p ≤ min l.k (usable i os parts a keep p l)) (inside i os parts a keep l.set)) (λ l f g. f g) b.expr
        (EachLeaf-from (λ l. IsGoodLeaf l → Each (λ p. gives l p ≤ min l.k (usable i os parts a keep p l)) (inside i os parts a keep l.set)) b.expr
        (λ l below leaf_good. Each-from (λ p. gives l p ≤ min l.k (usable i os parts a keep p l)) (inside i os parts a keep l.set)
        (λ p within. omega (arith, few_given l p below, usable_given l p below leaf_good within))))
        (each_good b.expr (good i os parts a keep fair b among).0))

  bids_below : (bs : List Bid) → Each (Contains os) bs → AreBelow (values_of_bids (inside i os parts a keep) parts keep bs) (bid_uppers (inside i os parts a keep) (usable i os parts a keep) bs)
  bids_below [] h = tt
  bids_below (b ∷ bs) h = (
    mark-le (worth_of (kept i os parts a keep fair b h.0) b.job b.expr),
    below-append _ (uppers (inside i os parts a keep) (usable i os parts a keep) b.expr) (values_of_bids (inside i os parts a keep) parts keep bs) (bid_uppers (inside i os parts a keep) (usable i os parts a keep) bs) (bid_below b h.0) (bids_below bs h.1),
  )

  pub point_below : AreBelow (values_of_bids (inside i os parts a keep) parts keep os) (bid_uppers (inside i os parts a keep) (usable i os parts a keep) os)
  point_below = bids_below os (Each-from (Contains os) os (λ b at. at))
