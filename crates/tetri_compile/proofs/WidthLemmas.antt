-- How many columns and rows the walks of live bids have, and that they are few.
use Rattle.std.proofs.Common.{◌≡◌, ℕ, suc, ◌+◌, ◌*◌, ◌^◌, ◌<◌, ◌≤◌, ◌==◌, ◌&&◌, ◌||◌, Bool, true, false, cond, List, [], ◌∷◌, ◌++◌, length, get_or, All, Contains, refl, sym, ap, ◌∙◌, subst, arith, le_trans, ⊎_elim}
use Rattle.std.specs.Prelude.{nat_le, nat_lt}
use Rattle.std.specs.List.{list_any, list_all, filter, range_with_len}
use Rattle.std.proofs.Math.Nat.{mul-le-mul_left}
use Rattle.std.proofs.lemmas.Bool.{and_parts}
use Rattle.std.proofs.lemmas.Bool.Decides.{nat_tests}
use Rattle.std.proofs.lemmas.List.{length-append, length-map, get_or_default}
use Rattle.std.proofs.lemmas.List.Elements.{All-contains, Contains-append_cases}
use Rattle.std.proofs.lemmas.List.Folds.{list_any-append}
use Rattle.std.proofs.lemmas.List.FromFn.{length-range_with_len}
use Rattle.tetri_strl.specs.declared.expr.Leaf.{Leaf}
use Rattle.tetri_strl.specs.Aligned.{EachLeaf, EachLeafOf}
use Rattle.tetri_strl.specs.Tree.{greatest, least, added, Tree, one, join, scale, barrier, Trees, none, more, leaves, leaves_of}
use Rattle.tetri_strl.specs.Prune.{starts_in}
use Rattle.tetri_strl.specs.WellMade.{IsSound, AreSound, IsGoodLeaf, HasChild, depth, depth_of, peak}
use Rattle.tetri_strl.proofs.ExprLaws.{the_one, EachLeaf-from, each_good}
use Rattle.tetri_base.specs.Lists.{bit, count, has, sum_of, Each}
use Rattle.tetri_space.specs.Partitions.{Parts, ArePartitionsOf, parts_found, parts_in, partitions, live_bids, part_at, set_at, available, asked, alike, closed_sets, leads}
use Rattle.tetri_space.specs.Sound.{IsSound as IsSoundSpace, IsSoundBid}
use Rattle.tetri_space.specs.Space.{Bid, Space, IsLive}
use Rattle.tetri_base.proofs.ListLaws.{Each-get, Each-at, Each-from, Each-all, Each-filter, sum_of-eq, sum_of-swap, range_from}
use Rattle.tetri_space.proofs.InstanceLaws.{filter_shorter, AreFrom, left_leaves, OfLeft, IsLess, IsLeftOf, IsSmaller, each_left_of, left_smaller, left_sound, sets_in_has, bids_left-shorter}
use Rattle.tetri_compile.specs.declared.outline.Tally.{Tally}
use Rattle.tetri_compile.specs.Draft.{leaf_tallies, is_held, supply_row, tallies, tallies_of, bid_uppers, bid_rows, bid_tallies, part_supply, supply}
use Rattle.tetri_compile.specs.Flat.{column_count, row_count}
use Rattle.tetri_compile.specs.Forms.{Limit, limit, share, run}
use Rattle.tetri_compile.specs.Sizes.{width_by, widths_by, widths_marked, row_total, row_totals, row_totals_under, covers, leaves_in, is_used, IsUsable, HasUsableParts, StartsInWindow}
use Rattle.tetri_compile.specs.Usable.{usable_by}
use Rattle.tetri_compile.specs.steps.Walked.{IsReady}
use Rattle.tetri_compile.specs.Walk.{ones, own_uppers, uppers, uppers_of, width, form, rows, rows_of, rows_under}

-- ---- the columns of a walk
module _ (many : ℕ → ℕ) (inside : ℕ → List ℕ) (usable : ℕ → Leaf → ℕ) where
  abbrev IsCounted : Leaf → Type 0
  IsCounted l = many l.set ≡ length (inside l.set)

  mutual
    pub width_is : (t : Tree) → EachLeaf IsCounted t → width inside usable t ≡ width_by many t
    width_is (one l) h = length-map (inside l.set) _ ∙ sym h
    width_is (join greatest ts) h = length-append (ones ts) (uppers_of inside usable ts) ∙ marked_is ts h
    width_is (join least ts) h = omega (arith, widths_is ts h)
    width_is (join added ts) h = length-append (ones ts) (uppers_of inside usable ts) ∙ marked_is ts h
    width_is (scale t s) h = width_is t h
    width_is (barrier t v) h = width_is t h

    widths_is : (ts : Trees) → EachLeafOf IsCounted ts → length (uppers_of inside usable ts) ≡ widths_by many ts
    widths_is none h = refl
    widths_is (more t ts) h = omega (arith, length-append (uppers inside usable t) (uppers_of inside usable ts), width_is t h.0, widths_is ts h.1)

    marked_is : (ts : Trees) → EachLeafOf IsCounted ts → length (ones ts) + length (uppers_of inside usable ts) ≡ widths_marked many ts
    marked_is none h = refl
    marked_is (more t ts) h = omega (arith, length-append (uppers inside usable t) (uppers_of inside usable ts), width_is t h.0, marked_is ts h.1)

  pub columns_are : (bs : List Bid) → Each (λ b. EachLeaf IsCounted b.expr) bs → length (bid_uppers inside usable bs) ≡ sum_of (λ b. 1 + width_by many b.expr) bs
  columns_are [] h = refl
  columns_are (b ∷ bs) h = omega (arith, length-append (uppers inside usable b.expr) (bid_uppers inside usable bs), width_is b.expr h.0, columns_are bs h.1)

-- ---- the rows of a walk
module _ (inside : ℕ → List ℕ) (usable : ℕ → Leaf → ℕ) where
  mutual
    pub rows_are : (t : Tree) (i n : ℕ) → length (rows inside usable t i n) ≡ row_total t
    rows_are (one l) i n = by_kind l.linear (limit (run 1 n (inside l.set)) (share i l.k ∷ [])) (limit (share i l.k ∷ []) (run 1 n (inside l.set)))
      where
        by_kind : (b : Bool) (r q : Limit) → length (r ∷ cond b [] (q ∷ [])) ≡ cond b 1 2
        by_kind true r q = refl
        by_kind false r q = refl
    rows_are (join greatest ts) i n = omega (arith, rows_of_are ts n (n + length (ones ts)))
    rows_are (join least ts) i n = rows_under_are ts i n (n + 1)
    rows_are (join added ts) i n = omega (arith, rows_of_are ts n (n + length (ones ts)))
    rows_are (scale t s) i n = rows_are t i n
    rows_are (barrier t v) i n = omega (arith, length-append (rows inside usable t i n) (limit (share i v ∷ []) (form inside usable t i n) ∷ []), rows_are t i n)

    rows_of_are : (ts : Trees) (j n : ℕ) → length (rows_of inside usable ts j n) ≡ row_totals ts
    rows_of_are none j n = refl
    rows_of_are (more t ts) j n =
        omega (arith, length-append (rows inside usable t j n) (rows_of inside usable ts (j + 1) (n + width inside usable t)), rows_are t j n, rows_of_are ts (j + 1) (n + width inside usable t))

    rows_under_are : (ts : Trees) (i c n : ℕ) → length (rows_under inside usable ts i c n) ≡ row_totals_under ts
    rows_under_are none i c n = refl
    rows_under_are (more t ts) i c n =
        omega (arith, length-append (rows inside usable t i n) (limit (share c 1 ∷ []) (form inside usable t i n) ∷ rows_under inside usable ts i c (n + width inside usable t)), rows_are t i n, rows_under_are ts i c (n + width inside usable t))

  pub bid_rows_are : (bs : List Bid) (n : ℕ) → length (bid_rows inside usable bs n) ≡ sum_of (λ b. row_total b.expr) bs
  bid_rows_are [] n = refl
  bid_rows_are (b ∷ bs) n =
      omega (arith, length-append (rows inside usable b.expr n (n + 1)) (bid_rows inside usable bs (n + 1 + width inside usable b.expr)), rows_are b.expr n (n + 1), bid_rows_are bs (n + 1 + width inside usable b.expr))

  -- ---- the rows of supply
  module _ (p t : ℕ) where
    leaf_held : (job : ℕ) (l : Leaf) (ps : List ℕ) (n : ℕ) → list_any (is_held p t) (leaf_tallies job l ps n) ≡ (covers l t && has ps p)
    leaf_held job l [] n = sym (and_false (covers l t))
      where
        and_false : (b : Bool) → (b && false) ≡ false
        and_false true = refl
        and_false false = refl
    leaf_held job l (q ∷ ps) n =
        ap (λ b. ((q == p && nat_le l.start t) && nat_lt t (l.start + l.dur)) || b) (leaf_held job l ps (n + 1))
        ∙ spread (q == p) (nat_le l.start t) (nat_lt t (l.start + l.dur)) (has ps p)
      where
        spread : (a b c d : Bool) → (((a && b) && c) || ((b && c) && d)) ≡ ((b && c) && (a || d))
        spread true true true d = refl
        spread true true false d = refl
        spread true false c d = refl
        spread false true true d = refl
        spread false true false d = refl
        spread false false c d = refl

    mutual
      tallies_held : (job : ℕ) (u : Tree) (n : ℕ) → list_any (is_held p t) (tallies inside usable job u n) ≡ is_used inside (leaves u) p t
      tallies_held job (one l) n = leaf_held job l (inside l.set) n ∙ or_false (covers l t && has (inside l.set) p)
        where
          or_false : (b : Bool) → b ≡ (b || false)
          or_false true = refl
          or_false false = refl
      tallies_held job (join op us) n = tallies_held_of job us (n + length (own_uppers inside usable op us))
      tallies_held job (scale u s) n = tallies_held job u n
      tallies_held job (barrier u v) n = tallies_held job u n

      tallies_held_of : (job : ℕ) (us : Trees) (n : ℕ) → list_any (is_held p t) (tallies_of inside usable job us n) ≡ is_used inside (leaves_of us) p t
      tallies_held_of job none n = refl
      tallies_held_of job (more u us) n =
          list_any-append (is_held p t) (tallies inside usable job u n) (tallies_of inside usable job us (n + width inside usable u))
          ∙ ap (λ b. b || list_any (is_held p t) (tallies_of inside usable job us (n + width inside usable u))) (tallies_held job u n)
          ∙ ap (λ b. is_used inside (leaves u) p t || b) (tallies_held_of job us (n + width inside usable u))
          ∙ sym (list_any-append (λ l. covers l t && has (inside l.set) p) (leaves u) (leaves_of us))

    bids_held : (bs : List Bid) (n : ℕ) → list_any (is_held p t) (bid_tallies inside usable bs n) ≡ is_used inside (leaves_in bs) p t
    bids_held [] n = refl
    bids_held (b ∷ bs) n =
        list_any-append (is_held p t) (tallies inside usable b.job b.expr (n + 1)) (bid_tallies inside usable bs (n + 1 + width inside usable b.expr))
        ∙ ap (λ c. c || list_any (is_held p t) (bid_tallies inside usable bs (n + 1 + width inside usable b.expr))) (tallies_held b.job b.expr (n + 1))
        ∙ ap (λ c. is_used inside (leaves b.expr) p t || c) (bids_held bs (n + 1 + width inside usable b.expr))
        ∙ sym (list_any-append (λ l. covers l t && has (inside l.set) p) (leaves b.expr) (leaves_in bs))

  supply_row_is : (cs : List Tally) (q : Tally → Bool) (m : ℕ) → length (supply_row (filter q cs) m) ≡ bit (list_any q cs)
  supply_row_is [] q m = refl
  supply_row_is (c ∷ cs) q m = by_test (q c) (supply_row_is cs q m)
    where
      by_test : (b : Bool) → length (supply_row (filter q cs) m) ≡ bit (list_any q cs) → length (supply_row (cond b (c ∷ filter q cs) (filter q cs)) m) ≡ bit (b || list_any q cs)
      by_test true h = refl
      by_test false h = h

  module _ (room : ℕ → ℕ → ℕ) where
    part_rows_are : (cs : List Tally) (p : ℕ) (ts : List ℕ) → length (part_supply room cs p ts) ≡ sum_of (λ t. bit (list_any (is_held p t) cs)) ts
    part_rows_are cs p [] = refl
    part_rows_are cs p (t ∷ ts) =
        omega (arith, length-append (supply_row (filter (is_held p t) cs) (room p t)) (part_supply room cs p ts), supply_row_is cs (is_held p t) (room p t), part_rows_are cs p ts)

    supply_are : (cs : List Tally) (ts ps : List ℕ) → length (supply room cs ts ps) ≡ sum_of (λ p. sum_of (λ t. bit (list_any (is_held p t) cs)) ts) ps
    supply_are cs ts [] = refl
    supply_are cs ts (p ∷ ps) = omega (arith, length-append (part_supply room cs p ts) (supply room cs ts ps), part_rows_are cs p ts, supply_are cs ts ps)

    pub supply_rows_are : (bs : List Bid) (n : ℕ) (ts ps : List ℕ) →
        length (supply room (bid_tallies inside usable bs n) ts ps) ≡ sum_of (λ t. count (λ p. is_used inside (leaves_in bs) p t) ps) ts
    supply_rows_are bs n ts ps =
        supply_are (bid_tallies inside usable bs n) ts ps
        ∙ sum_of-swap (λ p t. bit (list_any (is_held p t) (bid_tallies inside usable bs n))) ps ts
        ∙ sum_of-eq (λ t. sum_of (λ p. bit (list_any (is_held p t) (bid_tallies inside usable bs n))) ps) (λ t. count (λ p. is_used inside (leaves_in bs) p t) ps) ts
        (Each-all _ (λ t. sum_of-eq (λ p. bit (list_any (is_held p t) (bid_tallies inside usable bs n))) (λ p. bit (is_used inside (leaves_in bs) p t)) ps
        (Each-all _ (λ p. ap bit (bids_held p t bs n)) ps)) ts)

-- ---- bounds
mutual
  some_leaf : (t : Tree) → IsSound t → 1 ≤ length (leaves t)
  some_leaf (one l) h = omega arith
  some_leaf (join op ts) h = some_leaves ts h.0 h.1
  some_leaf (scale t s) h = some_leaf t h.0
  some_leaf (barrier t v) h = some_leaf t h.0

  some_leaves : (ts : Trees) → HasChild ts → AreSound ts → 1 ≤ length (leaves_of ts)
  some_leaves none some h = absurd some
  some_leaves (more t ts) some h = omega (arith, length-append (leaves t) (leaves_of ts), some_leaf t h.0)

-- a part and the others, each within a bound by leaves and depth
both_within : (l r d e m w v a : ℕ) → d ≤ m → e ≤ m → w ≤ l * (a + d) → v ≤ r * (a + m) → w + v ≤ (l + r) * (a + m)
both_within l r d e m w v a p q f g = let h = mul-le-mul_left l p in omega (arith, h)

wider : (l a d m w : ℕ) → d ≤ m → w ≤ l * (a + d) → w ≤ l * (a + m)
wider l a d m w p f = let h = mul-le-mul_left l p in omega (arith, h)

one_more : (l a d w : ℕ) → 1 ≤ l → w ≤ l * (a + d) → 1 + w ≤ l * (a + (d + 1))
one_more l a d w p f = omega (arith, p, f)

module _ (many : ℕ → ℕ) where
  abbrev IsFew : Leaf → Type 0
  IsFew l = many l.set ≤ 4096

  mutual
    width_few : (t : Tree) → IsSound t → EachLeaf IsFew t → width_by many t ≤ length (leaves t) * (4096 + depth t)
    width_few (one l) s h = omega (arith, h)
    width_few (join greatest ts) s h = marked_few ts s.1 h (depth_of ts) (omega arith)
    width_few (join least ts) s h = one_more (length (leaves_of ts)) 4096 (depth_of ts) (widths_by many ts) (some_leaves ts s.0 s.1) (widths_few ts s.1 h (depth_of ts) (omega arith))
    width_few (join added ts) s h = marked_few ts s.1 h (depth_of ts) (omega arith)
    width_few (scale t s) u h = wider (length (leaves t)) 4096 (depth t) (depth t + 1) (width_by many t) (omega arith) (width_few t u.0 h)
    width_few (barrier t v) u h = wider (length (leaves t)) 4096 (depth t) (depth t + 1) (width_by many t) (omega arith) (width_few t u.0 h)

    widths_few : (ts : Trees) → AreSound ts → EachLeafOf IsFew ts → (m : ℕ) → depth_of ts ≤ m → widths_by many ts ≤ length (leaves_of ts) * (4096 + m)
    widths_few none s h m le = omega arith
    widths_few (more t ts) s h m le =
        subst (λ n. width_by many t + widths_by many ts ≤ n * (4096 + m)) (sym (length-append (leaves t) (leaves_of ts)))
        (both_within (length (leaves t)) (length (leaves_of ts)) (depth t) (depth_of ts) m (width_by many t) (widths_by many ts) 4096 (omega (arith, le)) (omega (arith, le))
        (width_few t s.0 h.0) (widths_few ts s.1 h.1 m (omega (arith, le))))

    marked_few : (ts : Trees) → AreSound ts → EachLeafOf IsFew ts → (m : ℕ) → depth_of ts ≤ m → widths_marked many ts ≤ length (leaves_of ts) * (4096 + (m + 1))
    marked_few none s h m le = omega arith
    marked_few (more t ts) s h m le =
        subst (λ n. 1 + width_by many t + widths_marked many ts ≤ n * (4096 + (m + 1))) (sym (length-append (leaves t) (leaves_of ts)))
        (both_within (length (leaves t)) (length (leaves_of ts)) (m + 1) (m + 1) (m + 1) (1 + width_by many t) (widths_marked many ts) 4096 (omega arith) (omega arith)
        (one_more (length (leaves t)) 4096 m (width_by many t) (some_leaf t s.0) (wider (length (leaves t)) 4096 (depth t) m (width_by many t) (omega (arith, le)) (width_few t s.0 h.0)))
        (marked_few ts s.1 h.1 m (omega (arith, le))))

mutual
  rows_few : (t : Tree) → IsSound t → row_total t ≤ length (leaves t) * (1 + depth t)
  rows_few (one l) s = by_kind l.linear
    where
      by_kind : (b : Bool) → cond b 1 2 ≤ 1 * (1 + 1)
      by_kind true = omega arith
      by_kind false = omega arith
  rows_few (join greatest ts) s = one_more (length (leaves_of ts)) 1 (depth_of ts) (row_totals ts) (some_leaves ts s.0 s.1) (rows_few_of ts s.1 (depth_of ts) (omega arith))
  rows_few (join least ts) s = under_few ts s.1 (depth_of ts) (omega arith)
  rows_few (join added ts) s = one_more (length (leaves_of ts)) 1 (depth_of ts) (row_totals ts) (some_leaves ts s.0 s.1) (rows_few_of ts s.1 (depth_of ts) (omega arith))
  rows_few (scale t s) u = wider (length (leaves t)) 1 (depth t) (depth t + 1) (row_total t) (omega arith) (rows_few t u.0)
  rows_few (barrier t v) u = one_more (length (leaves t)) 1 (depth t) (row_total t) (some_leaf t u.0) (rows_few t u.0)

  rows_few_of : (ts : Trees) → AreSound ts → (m : ℕ) → depth_of ts ≤ m → row_totals ts ≤ length (leaves_of ts) * (1 + m)
  rows_few_of none s m le = omega arith
  rows_few_of (more t ts) s m le =
      subst (λ n. row_total t + row_totals ts ≤ n * (1 + m)) (sym (length-append (leaves t) (leaves_of ts)))
      (both_within (length (leaves t)) (length (leaves_of ts)) (depth t) (depth_of ts) m (row_total t) (row_totals ts) 1 (omega (arith, le)) (omega (arith, le))
      (rows_few t s.0) (rows_few_of ts s.1 m (omega (arith, le))))

  under_few : (ts : Trees) → AreSound ts → (m : ℕ) → depth_of ts ≤ m → row_totals_under ts ≤ length (leaves_of ts) * (1 + (m + 1))
  under_few none s m le = omega arith
  under_few (more t ts) s m le =
      subst (λ n. 1 + row_total t + row_totals_under ts ≤ n * (1 + (m + 1))) (sym (length-append (leaves t) (leaves_of ts)))
      (both_within (length (leaves t)) (length (leaves_of ts)) (m + 1) (m + 1) (m + 1) (1 + row_total t) (row_totals_under ts) 1 (omega arith) (omega arith)
      (one_more (length (leaves t)) 1 m (row_total t) (some_leaf t s.0) (wider (length (leaves t)) 1 (depth t) m (row_total t) (omega (arith, le)) (rows_few t s.0)))
      (under_few ts s.1 m (omega (arith, le))))

-- ---- of an instance
module _ (P : Leaf → Type 0) where
  mutual
    -- a fact of each leaf, at one of them
    pub EachLeaf-at : (t : Tree) (l : Leaf) → EachLeaf P t → Contains (leaves t) l → P l
    EachLeaf-at (one m) l h at = subst P (the_one m l at) h
    EachLeaf-at (join op ts) l h at = EachLeafOf-at ts l h at
    EachLeaf-at (scale t s) l h at = EachLeaf-at t l h at
    EachLeaf-at (barrier t v) l h at = EachLeaf-at t l h at

    EachLeafOf-at : (ts : Trees) (l : Leaf) → EachLeafOf P ts → Contains (leaves_of ts) l → P l
    EachLeafOf-at none l h at = absurd (omega (arith, at.1))
    EachLeafOf-at (more t ts) l h at =
        ⊎_elim (λ p. EachLeaf-at t l h.0 p) (λ p. EachLeafOf-at ts l h.1 p) (Contains-append_cases (leaves t) (leaves_of ts) l at)

all_append : {X : Type 0} (P : X → Type 0) (xs ys : List X) → ((x : X) → Contains xs x → P x) → All P ys → All P (xs ++ ys)
all_append P xs ys f h k d lt =
    ⊎_elim (λ at. f (get_or (xs ++ ys) k d) at) (λ at. All-contains P ys (get_or (xs ++ ys) k d) h at)
    (Contains-append_cases xs ys (get_or (xs ++ ys) k d) (k, lt, get_or_default (xs ++ ys) k (get_or (xs ++ ys) k d) d lt))

pub all_leaves : (P : Leaf → Type 0) (bs : List Bid) → ((b : Bid) (l : Leaf) → Contains bs b → Contains (leaves b.expr) l → P l) → All P (leaves_in bs)
all_leaves P [] f = λ k d lt. absurd (omega arith)
all_leaves P (b ∷ bs) f =
    all_append P (leaves b.expr) (leaves_in bs) (λ l below. f b l (0, omega arith, refl) below)
    (all_leaves P bs (λ c l at below. f c l (suc at.0, omega (arith, at.1), at.2) below))

sum_most : {X : Type 0} (f : X → ℕ) (m : ℕ) (xs : List X) → Each (λ x. f x ≤ m) xs → sum_of f xs ≤ length xs * m
sum_most f m [] h = omega arith
sum_most f m (x ∷ xs) h = omega (arith, h.0, sum_most f m xs h.1)

partitions_few : (s : Space) → length (partitions s) ≤ s.nodes
partitions_few s =
    let asks = asked s (live_bids s) in
    let marks = closed_sets s in
    let nodes = range_with_len 0 s.nodes in
    omega (
      arith,
      length-map (filter (leads asks marks nodes) nodes) (λ n. filter (alike (asks ++ marks) n) nodes),
      filter_shorter (leads asks marks nodes) nodes,
      length-range_with_len 0 s.nodes,
    )

small_product : (l d : ℕ) → l ≤ 128 → d ≤ 64 → l * (4096 + d) ≤ 532480
small_product l d p q = let h = mul-le-mul_left l q in omega (arith, h, p)

few_product : (l d : ℕ) → l ≤ 128 → d ≤ 64 → l * (1 + d) ≤ 8320
few_product l d p q = let h = mul-le-mul_left l q in omega (arith, h, p)

module _ (s : Space) (sound : IsSoundSpace s) (p : Parts) (are : ArePartitionsOf s p) where
  abbrev inside : ℕ → List ℕ
  inside = parts_in s (partitions s)

  abbrev many : ℕ → ℕ
  many k = length (parts_found p k)

  found : (b : Bid) (l : Leaf) → Contains (live_bids s) b → Contains (leaves b.expr) l → (l.set < length p.inside) × (parts_found p l.set ≡ inside l.set)
  found b l at below = let h = are.inside l.set (sets_in_has (live_bids s) b l at below) in (h.known, h.parts)

  inside_few : (k : ℕ) → length (inside k) ≤ 4096
  inside_few k =
      omega (
        arith,
        filter_shorter (λ q. list_all (has (set_at s k)) (part_at (partitions s) q)) (range_with_len 0 (length (partitions s))),
        length-range_with_len 0 (length (partitions s)),
        partitions_few s,
        sound.few_nodes,
      )

  each_bid : (P : Leaf → Type 0) → ((b : Bid) (l : Leaf) → Contains (live_bids s) b → Contains (leaves b.expr) l → P l) → Each (λ b. EachLeaf P b.expr) (live_bids s)
  each_bid P f = Each-from (λ b. EachLeaf P b.expr) (live_bids s) (λ b at. EachLeaf-from P b.expr (λ l below. f b l at below))

  live : (l : Leaf) → starts_in s.now (s.now + s.window) l ≡ true → IsLive s l
  live l e = let both = and_parts (nat_le s.now l.start) (nat_lt l.start (s.now + s.window)) e in record { not_early = low s.now l.start both.0; not_late = high l.start (s.now + s.window) both.1 }
    where
      low : (m n : ℕ) → nat_le m n ≡ true → m ≤ n
      low m n e = grind (arith, nat_tests)

      high : (m n : ℕ) → nat_lt m n ≡ true → m < n
      high m n e = grind (arith, nat_tests)

  live_leaf : (b : Bid) (l : Leaf) → Contains (live_bids s) b → Contains (leaves b.expr) l → IsLive s l
  live_leaf b l at below = from_left (Each-at (IsLeftOf s.now (s.now + s.window) s.bids) (live_bids s) b (each_left_of s.now (s.now + s.window) s.bids) at)
    where
      from_left : IsLeftOf s.now (s.now + s.window) s.bids b → IsLive s l
      from_left h =
          let among = subst (OfLeft (λ u. AreFrom s.now (s.now + s.window) (leaves h.whole.expr) (leaves u))) h.left (left_leaves s.now (s.now + s.window) h.whole.expr) in
          live l (among l below).1

  in_window : (l : Leaf) → IsLive s l → IsGoodLeaf l → StartsInWindow s.now l
  in_window l h good = record { not_early = h.not_early; not_late = omega (arith, h.not_late, sound.few_slots); some_slots = good.some_slots; few_slots = good.few_slots }

  pub usable : length p.inside ≤ 4096 → HasUsableParts s.now p
  usable few = record {
    few = omega (arith, ap length are.groups, partitions_few s, sound.few_nodes);
    sets = subst (λ bs. All (λ l. IsUsable p 4096 l.set) (leaves_in bs)) (sym are.bids) (all_leaves (λ l. IsUsable p 4096 l.set) (live_bids s) (λ b l at below.
        let h = found b l at below in
        record { known = h.0; parts = λ k d lt. subst (λ ps. All (λ q. q < 4096) ps) (sym h.1) (within l.set) k d lt }));
    leaves = subst (λ bs. All (λ l. (l.set < 4096) × StartsInWindow s.now l) (leaves_in bs)) (sym are.bids) (all_leaves (λ l. (l.set < 4096) × StartsInWindow s.now l) (live_bids s) (λ b l at below.
        (omega (arith, (found b l at below).0, few), in_window l (live_leaf b l at below) (good_leaf b l at below))));
  }
    where
      within : (k : ℕ) → All (λ q. q < 4096) (inside k)
      within k j d lt = Each-get (λ q. q < 4096) (inside k) j d (Each-filter (λ q. q < 4096) (λ q. list_all (has (set_at s k)) (part_at (partitions s) q)) (range_with_len 0 (length (partitions s)))
          (range_from (λ q. q < 4096) 0 (length (partitions s)) (λ q low high. omega (arith, high, partitions_few s, sound.few_nodes)))) lt

      good_leaf : (b : Bid) (l : Leaf) → Contains (live_bids s) b → Contains (leaves b.expr) l → IsGoodLeaf l
      good_leaf b l at below = from_left (Each-at (IsLeftOf s.now (s.now + s.window) s.bids) (live_bids s) b (each_left_of s.now (s.now + s.window) s.bids) at)
        where
          from_left : IsLeftOf s.now (s.now + s.window) s.bids b → IsGoodLeaf l
          from_left h =
              let whole = All-contains (IsSoundBid s) s.bids h.whole sound.sound_bids h.among in
              EachLeaf-at IsGoodLeaf b.expr l (each_good b.expr (subst (OfLeft (IsLess s.now (s.now + s.window) (peak h.whole.expr))) h.left (left_sound s.now (s.now + s.window) h.whole.expr whole.well_made.sound)).0) below

  -- ---- the two numbers
  counted : Each (λ b. EachLeaf (IsCounted many inside (usable_by s (partitions s))) b.expr) (live_bids s)
  counted = each_bid (IsCounted many inside (usable_by s (partitions s))) (λ b l at below. ap length (found b l at below).1)

  pub columns_counted : column_count s ≡ sum_of (λ b. 1 + width_by many b.expr) p.bids
  columns_counted =
      columns_are many inside (usable_by s (partitions s)) (live_bids s) counted ∙ ap (sum_of (λ b. 1 + width_by many b.expr)) (sym are.bids)

  same_used : (ls : List Leaf) (q t : ℕ) → All (λ (l : Leaf). parts_found p l.set ≡ inside l.set) ls → is_used (parts_found p) ls q t ≡ is_used inside ls q t
  same_used [] q t h = refl
  same_used (l ∷ ls) q t h =
      ap (λ ps. (covers l t && has ps q) || is_used (parts_found p) ls q t) (h 0 l (omega arith))
      ∙ ap (λ b. (covers l t && has (inside l.set) q) || b) (same_used ls q t (λ k d lt. h (suc k) d (omega arith)))

  pub rows_counted : row_count s ≡ sum_of (λ b. row_total b.expr) p.bids
      + sum_of (λ t. count (λ q. is_used (parts_found p) (leaves_in p.bids) q t) (range_with_len 0 (length p.groups))) (range_with_len s.now s.window)
  rows_counted =
      let usable = usable_by s (partitions s) in
      let room = available s (partitions s) in
      let slots = range_with_len s.now s.window in
      let ps = range_with_len 0 (length (partitions s)) in
      let supplied = supply_rows_are inside usable room (live_bids s) 0 slots ps in
      let moved : sum_of (λ t. count (λ q. is_used inside (leaves_in (live_bids s)) q t) ps) slots
      ≡ sum_of (λ t. count (λ q. is_used (parts_found p) (leaves_in p.bids) q t) (range_with_len 0 (length p.groups))) slots =
      sum_of-eq (λ t. count (λ q. is_used inside (leaves_in (live_bids s)) q t) ps) (λ t. count (λ q. is_used (parts_found p) (leaves_in (live_bids s)) q t) ps) slots
      (Each-all _ (λ t. sum_of-eq (λ q. bit (is_used inside (leaves_in (live_bids s)) q t)) (λ q. bit (is_used (parts_found p) (leaves_in (live_bids s)) q t)) ps
      (Each-all _ (λ q. ap bit (sym (same_used (leaves_in (live_bids s)) q t (all_leaves (λ l. parts_found p l.set ≡ inside l.set) (live_bids s) (λ b l at below. (found b l at below).1))))) ps)) slots)
      ∙ ap (λ bs. sum_of (λ t. count (λ q. is_used (parts_found p) (leaves_in bs) q t) ps) slots) (sym are.bids)
      ∙ ap (λ n. sum_of (λ t. count (λ q. is_used (parts_found p) (leaves_in p.bids) q t) (range_with_len 0 n)) slots) (sym (ap length are.groups)) in
      length-append (bid_rows inside usable (live_bids s) 0) (supply room (bid_tallies inside usable (live_bids s) 0) slots ps)
      ∙ omega (arith, bid_rows_are inside usable (live_bids s) 0, supplied, moved, ap (sum_of (λ b. row_total b.expr)) (sym are.bids))

  -- ---- and that they are small
  bid_small : (b : Bid) → Contains (live_bids s) b → (width_by many b.expr ≤ 532480) × (row_total b.expr ≤ 8320)
  bid_small b at = from_left (Each-at (IsLeftOf s.now (s.now + s.window) s.bids) (live_bids s) b (each_left_of s.now (s.now + s.window) s.bids) at)
    where
      from_left : IsLeftOf s.now (s.now + s.window) s.bids b → (width_by many b.expr ≤ 532480) × (row_total b.expr ≤ 8320)
      from_left h =
          let whole = All-contains (IsSoundBid s) s.bids h.whole sound.sound_bids h.among in
          let left = subst (OfLeft (IsLess s.now (s.now + s.window) (peak h.whole.expr))) h.left (left_sound s.now (s.now + s.window) h.whole.expr whole.well_made.sound) in
          let less = subst (OfLeft (IsSmaller h.whole.expr)) h.left (left_smaller s.now (s.now + s.window) h.whole.expr) in
          let few_leaves : length (leaves b.expr) ≤ 128 = omega (arith, less.leaves_le, whole.well_made.few_leaves) in
          let shallow : depth b.expr ≤ 64 = omega (arith, less.depth_le, whole.well_made.shallow) in
          let few : EachLeaf (IsFew many) b.expr = EachLeaf-from (IsFew many) b.expr (λ l below. subst (λ ps. length ps ≤ 4096) (sym (found b l at below).1) (inside_few l.set)) in (
            le_trans (width_few many b.expr left.0 few) (small_product (length (leaves b.expr)) (depth b.expr) few_leaves shallow),
            le_trans (rows_few b.expr left.0) (few_product (length (leaves b.expr)) (depth b.expr) few_leaves shallow),
          )

  few_live : length (live_bids s) ≤ 100000
  few_live = omega (arith, bids_left-shorter s.now (s.now + s.window) s.bids, sound.few_jobs)

  pub columns_small : sum_of (λ b. 1 + width_by many b.expr) p.bids < 2 ^ 63
  columns_small =
      let most = sum_most (λ b. 1 + width_by many b.expr) 532481 (live_bids s) (Each-from (λ b. 1 + width_by many b.expr ≤ 532481) (live_bids s) (λ b at. omega (arith, (bid_small b at).0))) in
      omega (arith, most, few_live, ap (sum_of (λ b. 1 + width_by many b.expr)) are.bids)

  pub rows_small : sum_of (λ b. row_total b.expr) p.bids < 2 ^ 62
  rows_small =
      let most = sum_most (λ b. row_total b.expr) 8320 (live_bids s) (Each-from (λ b. row_total b.expr ≤ 8320) (live_bids s) (λ b at. (bid_small b at).1)) in
      omega (arith, most, few_live, ap (sum_of (λ b. row_total b.expr)) are.bids)

  -- ---- each live bid is ready for its walk
  pub bids_ready : Each (λ b. IsSound b.expr × EachLeaf (IsReady s p) b.expr) p.bids
  bids_ready = subst (Each (λ b. IsSound b.expr × EachLeaf (IsReady s p) b.expr)) (sym are.bids) (Each-from (λ b. IsSound b.expr × EachLeaf (IsReady s p) b.expr) (live_bids s) (λ b at.
      from_left b at (Each-at (IsLeftOf s.now (s.now + s.window) s.bids) (live_bids s) b (each_left_of s.now (s.now + s.window) s.bids) at)))
    where
      from_left : (b : Bid) → Contains (live_bids s) b → IsLeftOf s.now (s.now + s.window) s.bids b → IsSound b.expr × EachLeaf (IsReady s p) b.expr
      from_left b at h =
          let whole = All-contains (IsSoundBid s) s.bids h.whole sound.sound_bids h.among in
          let left = subst (OfLeft (IsLess s.now (s.now + s.window) (peak h.whole.expr))) h.left (left_sound s.now (s.now + s.window) h.whole.expr whole.well_made.sound) in
          let among = subst (OfLeft (λ u. AreFrom s.now (s.now + s.window) (leaves h.whole.expr) (leaves u))) h.left (left_leaves s.now (s.now + s.window) h.whole.expr) in
          (left.0, EachLeaf-from (IsReady s p) b.expr (λ l below. let f = found b l at below in record { known = f.0; parts = f.1; live = live l (among l below).1 }))
