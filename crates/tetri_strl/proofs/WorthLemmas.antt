-- Worths against one another, by induction over the tree.
use Rattle.std.proofs.Common.{◌≡◌, ℕ, zero, suc, length, get_or, drop, ◌+◌, ◌*◌, ◌/◌, ◌<◌, ◌≤◌, min, max, Bool, true, false, cond, nat_le, Contains, ◌==◌, List, [], ◌∷◌, refl, ap, arith, le_trans}
use Rattle.std.proofs.Math.Nat.{mul_comm, mul-zero, mul-le-mul_left, div-mul-le_self}
use Rattle.std.proofs.lemmas.Nat.{mul-le}
use Rattle.std.proofs.lemmas.Bool.Decides.{nat_tests}
use Rattle.tetri_strl.specs.declared.expr.Leaf.{Leaf}
use Rattle.tetri_strl.specs.declared.grants.Grant.{Grant}
use Rattle.tetri_strl.specs.declared.expr.Expr.{Expr}
use Rattle.tetri_strl.specs.Tree.{Operator, greatest, least, added, Tree, one, join, scale, barrier, Trees, none, more, tree, trees, leaves, leaves_of}
use Rattle.tetri_strl.specs.Worth.{granted, worth_at, leaf_worth, leaf_top, greatest_of, least_from, least_of, added_of, joined, worth_by, worths_by}
use Rattle.std.proofs.lemmas.List.Elements.{Contains-append_left, Contains-append_right}
use Rattle.tetri_strl.specs.Aligned.{EachLeaf, EachLeafOf}
use Rattle.tetri_strl.specs.WellMade.{peak, peaks, peak_joined, PEAK, HasChild, IsGoodLeaf, IsSound, AreSound}

-- place by place, the first list is no greater
abbrev pub AreBelow : List ℕ → List ℕ → Type 0
AreBelow [] [] = Unit {0}
AreBelow (x ∷ xs) (y ∷ ys) = (x ≤ y) × AreBelow xs ys
AreBelow _ _ = ⊥

greatest_of-le : (xs ys : List ℕ) → AreBelow xs ys → greatest_of xs ≤ greatest_of ys
greatest_of-le [] [] h = omega arith
greatest_of-le [] (y ∷ ys) h = absurd h
greatest_of-le (x ∷ xs) [] h = absurd h
greatest_of-le (x ∷ xs) (y ∷ ys) h = omega (arith, h.0, greatest_of-le xs ys h.1)

added_of-le : (xs ys : List ℕ) → AreBelow xs ys → added_of xs ≤ added_of ys
added_of-le [] [] h = omega arith
added_of-le [] (y ∷ ys) h = absurd h
added_of-le (x ∷ xs) [] h = absurd h
added_of-le (x ∷ xs) (y ∷ ys) h = omega (arith, h.0, added_of-le xs ys h.1)

least_from-le : (m n : ℕ) (xs ys : List ℕ) → m ≤ n → AreBelow xs ys → least_from m xs ≤ least_from n ys
least_from-le m n [] [] le h = le
least_from-le m n [] (y ∷ ys) le h = absurd h
least_from-le m n (x ∷ xs) [] le h = absurd h
least_from-le m n (x ∷ xs) (y ∷ ys) le h = least_from-le (min m x) (min n y) xs ys (omega (arith, h.0)) h.1

least_from_le : (m : ℕ) (xs : List ℕ) → least_from m xs ≤ m
least_from_le m [] = omega arith
least_from_le m (x ∷ xs) = omega (arith, least_from_le (min m x) xs)

least_of-le : (xs ys : List ℕ) → AreBelow xs ys → least_of xs ≤ least_of ys
least_of-le [] [] h = omega arith
least_of-le [] (y ∷ ys) h = absurd h
least_of-le (x ∷ xs) [] h = absurd h
least_of-le (x ∷ xs) (y ∷ ys) h = least_from-le x y xs ys h.0 h.1

least_of_le_greatest_of : (xs ys : List ℕ) → AreBelow xs ys → least_of xs ≤ greatest_of ys
least_of_le_greatest_of [] ys h = omega arith
least_of_le_greatest_of (x ∷ xs) [] h = absurd h
least_of_le_greatest_of (x ∷ xs) (y ∷ ys) h = omega (arith, least_from_le x xs, h.0)

pub joined-le : (op : Operator) (xs ys : List ℕ) → AreBelow xs ys → joined op xs ≤ joined op ys
joined-le greatest = greatest_of-le
joined-le least = least_of-le
joined-le added = added_of-le

joined_le_peak_joined : (op : Operator) (xs ys : List ℕ) → AreBelow xs ys → joined op xs ≤ peak_joined op ys
joined_le_peak_joined greatest = greatest_of-le
joined_le_peak_joined least = least_of_le_greatest_of
joined_le_peak_joined added = added_of-le

barred_le : (v m : ℕ) (b : Bool) → cond b v 0 ≤ max v m
barred_le v m true = omega arith
barred_le v m false = omega arith

module _ (value : Leaf → ℕ) (below : (l : Leaf) → IsGoodLeaf l → value l ≤ l.v) where
  mutual
    pub worth_le_peak : (t : Tree) → IsSound t → worth_by value t ≤ peak t
    worth_le_peak (one l) h = below l h.0
    worth_le_peak (join op ts) h = joined_le_peak_joined op _ _ (worths_below_peaks ts h.1)
    worth_le_peak (scale t s) h = mul-le-mul_left s (worth_le_peak t h.0)
    worth_le_peak (barrier t v) h = barred_le v (peak t) _

    worths_below_peaks : (ts : Trees) → AreSound ts → AreBelow (worths_by value ts) (peaks ts)
    worths_below_peaks none h = tt
    worths_below_peaks (more t ts) h = (worth_le_peak t h.0, worths_below_peaks ts h.1)

pub peak_le : (t : Tree) → IsSound t → peak t ≤ PEAK
peak_le (one l) h = h.1
peak_le (join op ts) h = h.2
peak_le (scale t s) h = h.2
peak_le (barrier t v) h = omega (arith, h.1, peak_le t h.0)

pub worth_at_le : (l : Leaf) (n : ℕ) → IsGoodLeaf l → worth_at l n ≤ l.v
worth_at_le l n good = by_kind l.linear (n == l.k)
  where
    by_kind : (linear same : Bool) → cond linear (l.v / l.k * min l.k n) (cond same l.v 0) ≤ l.v
    by_kind true same =
        le_trans (mul-le (l.v / l.k) (min l.k n) (l.v / l.k) l.k (omega arith) (omega arith)) (div-mul-le_self l.v l.k)
    by_kind false true = omega arith
    by_kind false false = omega arith

pub leaf_worth_le : (a : List Grant) (job : ℕ) (l : Leaf) → IsGoodLeaf l → leaf_worth a job l ≤ l.v
leaf_worth_le a job l good = worth_at_le l (granted a job l.num) good

pub leaf_top_le : (from to : ℕ) (l : Leaf) → IsGoodLeaf l → leaf_top from to l ≤ l.v
leaf_top_le from to l good = grind (arith, nat_tests)

module _ (value : Leaf → ℕ) (below : (l : Leaf) → IsGoodLeaf l → value l ≤ l.v) where
  pub worth_le_limit : (t : Tree) → IsSound t → worth_by value t ≤ PEAK
  worth_le_limit t h = le_trans (worth_le_peak value below t h) (peak_le t h)

  -- the worth at the next place is part of the sum of those that are left
  pub next_le_added : (es : List Expr) (i : ℕ) (d : Expr) → i < length es →
      worth_by value (tree (get_or es i d)) ≤ added_of (worths_by value (trees (drop i es)))
  next_le_added [] i d lt = absurd (omega arith)
  next_le_added (e ∷ es) zero d lt = omega arith
  next_le_added (e ∷ es) (suc i) d lt = next_le_added es i d (omega arith)

  -- a bound above every worth changes no least
  pub least_from_limit : (ts : Trees) → HasChild ts → AreSound ts →
      least_from 18446744073709551615 (worths_by value ts) ≡ least_of (worths_by value ts)
  least_from_limit none some sound = absurd some
  least_from_limit (more t ts) some sound =
      ap (λ n. least_from n (worths_by value ts)) (omega (arith, worth_le_limit t sound.0))

  pub scaled_worth_le : (t : Tree) (s : ℕ) → IsSound (scale t s) → worth_by value t * s ≤ PEAK
  scaled_worth_le t s h = rw (mul_comm (worth_by value t) s) (worth_le_limit (scale t s) h)

barred_mono : (v x y : ℕ) → x ≤ y → cond (nat_le v x) v 0 ≤ cond (nat_le v y) v 0
barred_mono v x y le = grind (arith, nat_tests)

module _ (value other : Leaf → ℕ) where
  abbrev IsNoMore : Leaf → Type 0
  IsNoMore l = value l ≤ other l

  mutual
    -- a tree whose leaves are worth no more is worth no more
    pub worth_by-le : (t : Tree) → EachLeaf IsNoMore t → worth_by value t ≤ worth_by other t
    worth_by-le (one l) h = h
    worth_by-le (join op ts) h = joined-le op _ _ (worths_by-le ts h)
    worth_by-le (scale t s) h = mul-le-mul_left s (worth_by-le t h)
    worth_by-le (barrier t v) h = barred_mono v _ _ (worth_by-le t h)

    worths_by-le : (ts : Trees) → EachLeafOf IsNoMore ts → AreBelow (worths_by value ts) (worths_by other ts)
    worths_by-le none h = tt
    worths_by-le (more t ts) h = (worth_by-le t h.0, worths_by-le ts h.1)

module _ (P : Leaf → Type 0) where
  mutual
    -- a fact of each leaf, from the list of the leaves
    pub EachLeaf-from : (t : Tree) → ((l : Leaf) → Contains (leaves t) l → P l) → EachLeaf P t
    EachLeaf-from (one l) h = h l (0, omega arith, refl)
    EachLeaf-from (join op ts) h = EachLeafOf-from ts h
    EachLeaf-from (scale t s) h = EachLeaf-from t h
    EachLeaf-from (barrier t v) h = EachLeaf-from t h

    EachLeafOf-from : (ts : Trees) → ((l : Leaf) → Contains (leaves_of ts) l → P l) → EachLeafOf P ts
    EachLeafOf-from none h = tt
    EachLeafOf-from (more t ts) h = (
      EachLeaf-from t (λ l at. h l (Contains-append_left (leaves t) (leaves_of ts) l at)),
      EachLeafOf-from ts (λ l at. h l (Contains-append_right (leaves t) (leaves_of ts) l at)),
    )

mutual
  pub each_good : (t : Tree) → IsSound t → EachLeaf IsGoodLeaf t
  each_good (one l) h = h.0
  each_good (join op ts) h = each_good_of ts h.1
  each_good (scale t s) h = each_good t h.0
  each_good (barrier t v) h = each_good t h.0

  each_good_of : (ts : Trees) → AreSound ts → EachLeafOf IsGoodLeaf ts
  each_good_of none h = tt
  each_good_of (more t ts) h = (each_good t h.0, each_good_of ts h.1)

module _ (P Q R : Leaf → Type 0) (both : (l : Leaf) → P l → Q l → R l) where
  mutual
    pub EachLeaf-both : (t : Tree) → EachLeaf P t → EachLeaf Q t → EachLeaf R t
    EachLeaf-both (one l) p q = both l p q
    EachLeaf-both (join op ts) p q = EachLeafOf-both ts p q
    EachLeaf-both (scale t s) p q = EachLeaf-both t p q
    EachLeaf-both (barrier t v) p q = EachLeaf-both t p q

    EachLeafOf-both : (ts : Trees) → EachLeafOf P ts → EachLeafOf Q ts → EachLeafOf R ts
    EachLeafOf-both none p q = tt
    EachLeafOf-both (more t ts) p q = (EachLeaf-both t p.0 q.0, EachLeafOf-both ts p.1 q.1)

-- numbers that test equal are equal
pub eq_from_test : (x y : ℕ) → (x == y) ≡ true → x ≡ y
eq_from_test x y e = grind (arith, nat_tests)

-- no nodes are worth nothing
pub worth_at-none : (l : Leaf) → IsGoodLeaf l → worth_at l 0 ≡ 0
worth_at-none l good = by_kind l.linear (0 == l.k) (λ e. omega (arith, eq_from_test 0 l.k e, good.some_nodes))
  where
    by_kind : (linear same : Bool) → (same ≡ true → ⊥) → cond linear (l.v / l.k * min l.k 0) (cond same l.v 0) ≡ 0
    by_kind true same never = let e : min l.k 0 ≡ 0 = omega arith in rw e (mul-zero (l.v / l.k))
    by_kind false true never = absurd (never refl)
    by_kind false false never = refl

-- one part further on in a greatest, a least and a sum
pub greatest_more : (best here next rest whole : ℕ) → next ≡ max here best → max best (max here rest) ≡ whole → max next rest ≡ whole
greatest_more best here next rest whole new so_far = omega arith

pub least_more : (low here next : ℕ) → next ≡ min here low → next ≡ min low here
least_more low here next new = omega arith

pub added_more : (sum here next rest whole : ℕ) → next ≡ here → sum + (here + rest) ≡ whole → sum + next + rest ≡ whole
added_more sum here next rest whole new so_far = omega arith

-- and at its end
pub greatest_end : (best whole : ℕ) → max best 0 ≡ whole → best ≡ whole
greatest_end best whole so_far = omega arith

pub added_end : (sum whole : ℕ) → sum + 0 ≡ whole → sum ≡ whole
added_end sum whole so_far = omega arith
