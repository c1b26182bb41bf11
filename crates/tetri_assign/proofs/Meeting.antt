-- What the counts of a point take.
use Rattle.std.proofs.Common.{◌≡◌, ℕ, ◌+◌, ◌<◌, ◌≤◌, min, Bool, true, false, cond, List, [], ◌∷◌, length, map, Contains, refl, sym, ap, ◌∙◌, arith, Some, true≢false}
use Rattle.std.specs.Prelude.{nat_lt}
use Rattle.std.specs.List.{list_all, filter, range_with_len}
use Rattle.std.proofs.lemmas.Bool.Decides.{nat_tests}
use Rattle.tetri_strl.specs.declared.expr.Leaf.{Leaf}
use Rattle.tetri_strl.specs.Tree.{Tree, one, join, scale, barrier, Trees, none, more, leaves}
use Rattle.tetri_strl.specs.WellMade.{IsGoodLeaf, IsSound}
use Rattle.tetri_strl.proofs.ExprLaws.{AreApart, each_good}
use Rattle.tetri_base.specs.Lists.{sum_of, has, Each, EachPair, Ascends}
use Rattle.tetri_space.specs.Partitions.{groups, part_at, nodes_of, parts_in, set_at, available}
use Rattle.tetri_space.specs.Space.{Bid, Space, leaf_in}
use Rattle.tetri_space.proofs.InstanceLaws.{EachLeaf-at}
use Rattle.tetri_base.proofs.ListLaws.{sum_of-eq, sum_of-filter, Each-map, Each-all, Each-append, Each-both, Each-filter, Each-passed, Each-at, Each-from, EachPair-with, range_contains, range_from}
use Rattle.tetri_compile.specs.declared.outline.Tally.{Tally}
use Rattle.tetri_compile.specs.Draft.{bid_uppers, bid_rows, bid_tallies, leaf_tallies, tallies, tallies_of, is_held, supply, draft_of}
use Rattle.tetri_compile.specs.Forms.{AreMet, Within}
use Rattle.tetri_compile.specs.Usable.{is_shut, usable_by}
use Rattle.tetri_compile.specs.Walk.{own_uppers, uppers, uppers_of, width}
use Rattle.tetri_compile.proofs.ProgramLaws.{AreMet-split, IsOf, Within-split, tallies_leaf}
use Rattle.std.proofs.lemmas.Option.{same_Some}
use Rattle.tetri_compile.specs.Sizes.{covers}
use Rattle.tetri_assign.specs.Assigned.{Piece, piece, pieces, turn_before}
use Rattle.tetri_base.specs.Order.{in_order}
use Rattle.tetri_base.proofs.OrderLaws.{Each-in_order, sum_of-in_order}
use Rattle.tetri_assign.proofs.Turns.{parts_sorted, parts_apart, in_turn, supplied}
use Rattle.tetri_assign.proofs.Pieces.{IsExact, NoClash, pieces_right, use_at, slot_from}

-- what a filtered list contains keeps the fact of the list
in_filtered : (p : ℕ → Bool) (ns : List ℕ) (P : ℕ → Type 0) → Each P ns → (n : ℕ) → Contains (filter p ns) n → P n
in_filtered p ns P h n at = Each-at P (filter p ns) n (Each-filter P p ns h) at

-- the columns that count nodes are within what is usable
module _ (inside : ℕ → List ℕ) (usable : ℕ → Leaf → ℕ) (x : ℕ → ℕ) where
  abbrev IsUsable : Tally → Type 0
  IsUsable c = x c.column ≤ usable c.part c.leaf

  leaf_usable : (job : ℕ) (l : Leaf) (ps : List ℕ) (n : ℕ) → Within x n (map (λ p. min l.k (usable p l)) ps) → Each IsUsable (leaf_tallies job l ps n)
  leaf_usable job l [] n h = tt
  leaf_usable job l (p ∷ ps) n h = (omega (arith, h.0), leaf_usable job l ps (n + 1) h.1)

  mutual
    tree_usable : (job : ℕ) (t : Tree) (n : ℕ) → Within x n (uppers inside usable t) → Each IsUsable (tallies inside usable job t n)
    tree_usable job (one l) n h = leaf_usable job l (inside l.set) n h
    tree_usable job (join op ts) n h =
        trees_usable job ts (n + length (own_uppers inside usable op ts)) (Within-split x n (own_uppers inside usable op ts) (uppers_of inside usable ts) h).1
    tree_usable job (scale t s) n h = tree_usable job t n h
    tree_usable job (barrier t v) n h = tree_usable job t n h

    trees_usable : (job : ℕ) (ts : Trees) (n : ℕ) → Within x n (uppers_of inside usable ts) → Each IsUsable (tallies_of inside usable job ts n)
    trees_usable job none n h = tt
    trees_usable job (more t ts) n h =
        let both = Within-split x n (uppers inside usable t) (uppers_of inside usable ts) h in
        Each-append IsUsable (tallies inside usable job t n) (tallies_of inside usable job ts (n + width inside usable t)) (tree_usable job t n both.0) (trees_usable job ts (n + width inside usable t) both.1)

  bids_usable : (bs : List Bid) (n : ℕ) → Within x n (bid_uppers inside usable bs) → Each IsUsable (bid_tallies inside usable bs n)
  bids_usable [] n h = tt
  bids_usable (b ∷ bs) n h =
      let both = Within-split x (n + 1) (uppers inside usable b.expr) (bid_uppers inside usable bs) h.1 in
      Each-append IsUsable (tallies inside usable b.job b.expr (n + 1)) (bid_tallies inside usable bs (n + 1 + width inside usable b.expr)) (tree_usable b.job b.expr (n + 1) both.0)
      (bids_usable bs (n + 1 + width inside usable b.expr) both.1)

module _ (i : Space) (os : List Bid) (asks marks : List (List ℕ)) (x : ℕ → ℕ) where
  abbrev pub parts : List (List ℕ)
  parts = groups asks marks (nodes_of i)

  abbrev pub inside : ℕ → List ℕ
  inside = parts_in i parts

  abbrev pub usable : ℕ → Leaf → ℕ
  usable = usable_by i parts

  abbrev pub room : ℕ → ℕ → ℕ
  room = available i parts

  abbrev pub cs : List Tally
  cs = bid_tallies inside usable os 0

  abbrev pub slots : List ℕ
  slots = range_with_len i.now i.window

  -- the bids are right, and the point lies in the program's box and meets its rows
  pub record IsMeeting : Type 0 where
    pub sound : Each (λ b. IsSound b.expr × AreApart b.expr) os
    pub jobs : EachPair (λ b c. b.job ≡ c.job → ⊥) os
    pub live : (b : Bid) (l : Leaf) → Contains os b → Contains (leaves b.expr) l → (i.now ≤ l.start) × (l.start < i.now + i.window)
    pub found : (b : Bid) (l : Leaf) → Contains os b → Contains (leaves b.expr) l → leaf_in i.bids b.job l.num ≡ Some l
    pub box : Within x 0 (bid_uppers inside usable os)
    pub met : AreMet x (draft_of i os parts).rows

  pub record IsPlaced (c : Tally) : Type 0 where
    pub bid : Bid
    pub among : Contains os bid
    pub of_bid : IsOf inside usable bid.job (leaves bid.expr) c

  placed : (bs : List Bid) (n : ℕ) → Each (Contains os) bs → Each IsPlaced (bid_tallies inside usable bs n)
  placed [] n h = tt
  placed (b ∷ bs) n h =
      Each-append IsPlaced _ _
      (Each-map (IsOf inside usable b.job (leaves b.expr)) IsPlaced (λ c o. record { bid = b; among = h.0; of_bid = o }) _ (tallies_leaf inside usable b.job b.expr (n + 1)))
      (placed bs (n + 1 + width inside usable b.expr) h.1)

  pub all_placed : Each IsPlaced cs
  all_placed = placed os 0 (Each-from (Contains os) os (λ b at. at))

  module _ (meets : IsMeeting) where
    pub good_leaf : (b : Bid) (l : Leaf) → Contains os b → Contains (leaves b.expr) l → IsGoodLeaf l
    good_leaf b l among below =
        EachLeaf-at IsGoodLeaf b.expr l (each_good b.expr (Each-at (λ c. IsSound c.expr × AreApart c.expr) os b meets.sound among).0) below

    abbrev pub above_zero : List Tally
    above_zero = filter (λ c. nat_lt 0 (x c.column)) cs

    abbrev pub ordered : List Tally
    ordered = in_order turn_before above_zero

    abbrev pub made_pieces : List Piece
    made_pieces = pieces i parts x [] ordered

    abbrev pub part_ascends : (p : ℕ) → Ascends (part_at parts p)
    part_ascends = parts_sorted i asks marks

    abbrev pub parts_differ : (p q n : ℕ) → has (part_at parts p) n ≡ true → has (part_at parts q) n ≡ true → p ≡ q
    parts_differ = parts_apart i asks marks

    pub zeros_vanish : (h : Tally → ℕ) → ((c : Tally) → x c.column ≡ 0 → h c ≡ 0) → sum_of h ordered ≡ sum_of h cs
    zeros_vanish h zero_at =
        sum_of-in_order turn_before h above_zero ∙ sum_of-filter h (λ c. nat_lt 0 (x c.column)) cs
        ∙ sum_of-eq (λ c. cond (nat_lt 0 (x c.column)) (h c) 0) h cs (Each-all _ (λ c. by_test (nat_lt 0 (x c.column)) (h c) (λ e. zero_at c (not_above (x c.column) e))) cs)
      where
        not_above : (n : ℕ) → nat_lt 0 n ≡ false → n ≡ 0
        not_above n e = grind (arith, nat_tests)

        by_test : (b : Bool) (n : ℕ) → (b ≡ false → n ≡ 0) → cond b n 0 ≡ n
        by_test true n f = refl
        by_test false n f = sym (f refl)

    pub cond_zero : (b : Bool) (n : ℕ) → n ≡ 0 → cond b n 0 ≡ 0
    cond_zero true n e = e
    cond_zero false n e = refl

    pub ordered_placed : Each IsPlaced ordered
    ordered_placed = Each-in_order turn_before IsPlaced above_zero (Each-filter IsPlaced (λ c. nat_lt 0 (x c.column)) cs all_placed)

    -- the partition of a count above 0 is closed in no slot of its leaf
    abbrev pub IsOpen : Tally → Type 0
    IsOpen c = is_shut i parts c.part c.leaf ≡ false

    pub ordered_open : Each IsOpen ordered
    ordered_open =
        Each-in_order turn_before IsOpen above_zero
        (Each-both (IsUsable inside usable x) (λ c. nat_lt 0 (x c.column) ≡ true) IsOpen (λ c le e. opened (is_shut i parts c.part c.leaf) (x c.column) (available i parts c.part c.leaf.start) e le) above_zero
        (Each-filter (IsUsable inside usable x) (λ c. nat_lt 0 (x c.column)) cs (bids_usable inside usable x os 0 meets.box))
        (Each-passed (λ c. nat_lt 0 (x c.column) ≡ true) (λ c. nat_lt 0 (x c.column)) (λ c e. e) cs))
      where
        opened : (b : Bool) (m n : ℕ) → nat_lt 0 m ≡ true → m ≤ cond b 0 n → b ≡ false
        opened false m n e le = refl
        opened true m n e le = absurd (not_zero m e (omega (arith, le)))
          where
            not_zero : (k : ℕ) → nat_lt 0 k ≡ true → k ≡ 0 → ⊥
            not_zero k f z = true≢false (sym f ∙ ap (nat_lt 0) z)

    pub rows_met : AreMet x (bid_rows inside usable os 0) × AreMet x (supply room cs slots (range_with_len 0 (length parts)))
    rows_met = AreMet-split x (bid_rows inside usable os 0) (supply room cs slots (range_with_len 0 (length parts))) meets.met

    pub part_inside : (c : Tally) → IsPlaced c → c.part < length parts
    part_inside c k =
        in_filtered (λ p. list_all (has (set_at i c.leaf.set)) (part_at parts p)) (range_with_len 0 (length parts)) (λ p. p < length parts)
        (range_from (λ p. p < length parts) 0 (length parts) (λ q low high. omega (arith, high))) c.part k.of_bid.part

    within_supply : (c : Tally) → IsPlaced c → sum_of (use_at i parts x part_ascends parts_differ c) ordered + 0 ≤ room c.part c.leaf.start
    within_supply c k =
        let in_window = meets.live k.bid c.leaf k.among k.of_bid.leaf in
        let small = part_inside c k in
        let row = Each-at (λ t. sum_of (λ d. cond (is_held c.part t d) (x d.column) 0) cs ≤ room c.part t) slots c.leaf.start
        (Each-at (λ p. Each (λ t. sum_of (λ d. cond (is_held p t d) (x d.column) 0) cs ≤ room p t) slots) (range_with_len 0 (length parts)) c.part
        (supplied room x cs slots (range_with_len 0 (length parts)) rows_met.1) (range_contains 0 (length parts) c.part (omega arith) (omega (arith, small))))
        (range_contains i.now i.window c.leaf.start in_window.0 in_window.1) in
        omega (arith, row, zeros_vanish (use_at i parts x part_ascends parts_differ c) (λ d e. cond_zero (is_held c.part c.leaf.start d) (x d.column) e))

    pub right : Each (IsExact i parts x part_ascends parts_differ) made_pieces × EachPair (NoClash i parts x part_ascends parts_differ) made_pieces
    right =
        pieces_right i parts x part_ascends parts_differ [] ordered tt tt (record {
          long = Each-map IsPlaced (λ c. 1 ≤ c.leaf.dur) (λ c k. (good_leaf k.bid c.leaf k.among k.of_bid.leaf).some_slots) ordered ordered_placed;
          in_turn = in_turn above_zero;
          later = Each-all (λ c. Unit {0}) (λ c. tt) ordered;
          supplied = Each-map IsPlaced (λ c. sum_of (use_at i parts x part_ascends parts_differ c) ordered + 0 ≤ room c.part c.leaf.start) within_supply ordered ordered_placed;
        })

    -- what holds of each count holds of each piece's
    each_piece : (P : Tally → Type 0) → Each P ordered → Each (λ q. P q.tally) made_pieces
    each_piece P h = by_counts [] ordered tt h
      where
        by_counts : (qs : List Piece) (ds : List Tally) → Each (λ q. P q.tally) qs → Each P ds → Each (λ q. P q.tally) (pieces i parts x qs ds)
        by_counts qs [] k j = k
        by_counts qs (d ∷ ds) k j = by_counts (piece i parts x qs d ∷ qs) ds (j.0, k) j.1

    pub ps_placed : Each (λ q. IsPlaced q.tally) made_pieces
    ps_placed = each_piece IsPlaced ordered_placed

    pub ps_open : Each (λ q. IsOpen q.tally) made_pieces
    ps_open = each_piece IsOpen ordered_open

    -- a count's leaf is the one of its job and number
    pub leaf_is : (c : Tally) → IsPlaced c → leaf_in i.bids c.job c.leaf.num ≡ Some c.leaf
    leaf_is c k = ap (λ j. leaf_in i.bids j c.leaf.num) k.of_bid.job ∙ meets.found k.bid c.leaf k.among k.of_bid.leaf

    pub same_leaf : (c d : Tally) → IsPlaced c → IsPlaced d → c.job ≡ d.job → c.leaf.num ≡ d.leaf.num → c.leaf ≡ d.leaf
    same_leaf c d j k job num =
        same_Some c.leaf d.leaf (sym (leaf_is c j) ∙ ap (λ n. leaf_in i.bids n c.leaf.num) job ∙ ap (leaf_in i.bids d.job) num ∙ leaf_is d k)

    abbrev pub HaveNoNode : Piece → Piece → Type 0
    HaveNoNode q r = (n : ℕ) → q.tally.job ≡ r.tally.job → q.tally.leaf.num ≡ r.tally.leaf.num → has q.nodes n ≡ true → has r.nodes n ≡ true → ⊥

    -- two pieces of one leaf share no node
    pub same_leaf_apart : EachPair HaveNoNode made_pieces
    same_leaf_apart =
        EachPair-with (λ q. IsPlaced q.tally) (NoClash i parts x part_ascends parts_differ) HaveNoNode
        (λ q r j k clear n job num c d.
        let same = same_leaf q.tally r.tally j k job num in
        let long = (good_leaf j.bid q.tally.leaf j.among j.of_bid.leaf).some_slots in
        let mine = slot_from i parts x part_ascends parts_differ q.tally.leaf q.tally.leaf.start (omega arith) (omega (arith, long)) in
        clear n q.tally.leaf.start c d mine (ap (λ m. covers m q.tally.leaf.start) (sym same) ∙ mine))
        made_pieces ps_placed right.1
