-- What all grants of fair bids are charged is at most what the free nodes cost.
use Rattle.std.proofs.Common.{◌≡◌, ℕ, suc, ◌+◌, ◌*◌, ◌<◌, ◌≤◌, ◌==◌, Bool, true, false, cond, nat_lt, nat_le, List, [], ◌∷◌, ◌++◌, map, Contains, refl, sym, ◌∙◌, subst, arith, le_trans, mul-le-mul_left, mul-zero, mul_comm, mul-add}
use Rattle.std.specs.List.{list_all, filter}
use Rattle.std.proofs.lemmas.Bool.{and_parts}
use Rattle.tetri_base.specs.Lists.{sum_of, has, Each, EachPair, Ascends}
use Rattle.tetri_base.proofs.ListLaws.{eq_from_test, Each-all, Each-append, Each-at, Each-both, Each-filter, Each-from, Each-map, Each-passed, EachPair-append, EachPair-filter, EachPair-with, sum_of-append, sum_of-eq, sum_of-filter, sum_of-filter-le, sum_of-le, sum_of-map, sum_of-swap}
use Rattle.tetri_strl.specs.declared.expr.Leaf.{Leaf}
use Rattle.tetri_strl.specs.declared.grants.Grant.{Grant}
use Rattle.tetri_strl.specs.Tree.{Tree, one, join, scale, barrier, Trees, none, more, leaves, leaves_of}
use Rattle.tetri_strl.proofs.ExprLaws.{AreApart, AreApartOf}
use Rattle.tetri_space.specs.Free.{is_free}
use Rattle.tetri_space.specs.Partitions.{available, part_at, parts_in, set_at}
use Rattle.tetri_space.specs.Space.{Bid, Space}
use Rattle.tetri_compile.specs.Allotted.{suits, granted_in}
use Rattle.tetri_compile.specs.Sizes.{covers}
use Rattle.tetri_compile.proofs.ProgramLaws.{any_which, Each-has, held_le_free, HoldsApart, IsFair, IsOnRight, IsRightFor, le_from_test, lt_from_test, number_of, number_of_all, ShareNone, shares_le, suits_some}
use Rattle.tetri_prices.specs.Priced.{node_cost, part_numbers, supply_cost, window_slots}

-- ---- sums of products
pub sum_of-times : {X : Type 0} (n : ℕ) (f : X → ℕ) (xs : List X) → sum_of (λ x. n * f x) xs ≡ n * sum_of f xs
sum_of-times n f [] = sym (mul-zero n)
sum_of-times n f (x ∷ xs) = omega (arith, sum_of-times n f xs, mul-add n (f x) (sum_of f xs))

-- what holds of each place holds of the sums over all places, each weighed by its price
module _ {X : Type 0} (cell : X → ℕ → ℕ → ℕ) (price room : ℕ → ℕ → ℕ) (xs : List X) (ts : List ℕ) (fits : (p t : ℕ) → sum_of (λ x. cell x p t) xs ≤ room p t) where
  by_slot : (p t : ℕ) → sum_of (λ x. price p t * cell x p t) xs ≤ price p t * room p t
  by_slot p t = omega (arith, sum_of-times (price p t) (λ x. cell x p t) xs, mul-le-mul_left (price p t) (fits p t))

  by_part : (p : ℕ) → sum_of (λ x. sum_of (λ t. price p t * cell x p t) ts) xs ≤ sum_of (λ t. price p t * room p t) ts
  by_part p =
      subst (λ n. n ≤ sum_of (λ t. price p t * room p t) ts) (sym (sum_of-swap (λ x t. price p t * cell x p t) xs ts))
      (sum_of-le (λ t. sum_of (λ x. price p t * cell x p t) xs) (λ t. price p t * room p t) ts (Each-all _ (by_slot p) ts))

  weighed : (ps : List ℕ) → sum_of (λ x. sum_of (λ p. sum_of (λ t. price p t * cell x p t) ts) ps) xs ≤ sum_of (λ p. sum_of (λ t. price p t * room p t) ts) ps
  weighed ps =
      subst (λ n. n ≤ sum_of (λ p. sum_of (λ t. price p t * room p t) ts) ps) (sym (sum_of-swap (λ x p. sum_of (λ t. price p t * cell x p t) ts) xs ps))
      (sum_of-le (λ p. sum_of (λ x. sum_of (λ t. price p t * cell x p t) ts) xs) (λ p. sum_of (λ t. price p t * room p t) ts) ps (Each-all _ by_part ps))

-- ---- the leaves of bids, each with its bid
record Ask : Type 0 where
  bid : Bid
  leaf : Leaf

abbrev ask : Bid → Leaf → Ask
ask b l = record { bid = b; leaf = l }

abbrev asks : List Bid → List Ask
asks [] = []
asks (b ∷ bs) = map (ask b) (leaves b.expr) ++ asks bs

asks_sum : (f : Ask → ℕ) (bs : List Bid) → sum_of (λ b. sum_of (λ l. f (ask b l)) (leaves b.expr)) bs ≡ sum_of f (asks bs)
asks_sum f [] = refl
asks_sum f (b ∷ bs) = omega (arith, sum_of-append f (map (ask b) (leaves b.expr)) (asks bs), sum_of-map f (ask b) (leaves b.expr), asks_sum f bs)

each_ask : (P : Ask → Type 0) (bs : List Bid) → ((b : Bid) → Contains bs b → (l : Leaf) → Contains (leaves b.expr) l → P (ask b l)) → Each P (asks bs)
each_ask P [] f = tt
each_ask P (b ∷ bs) f =
    Each-append P (map (ask b) (leaves b.expr)) (asks bs)
    (mapped (leaves b.expr) (Each-from (λ l. P (ask b l)) (leaves b.expr) (f b (0, omega arith, refl))))
    (each_ask P bs (λ c at. f c (suc at.0, omega (arith, at.1), at.2)))
  where
    mapped : (ls : List Leaf) → Each (λ l. P (ask b l)) ls → Each P (map (ask b) ls)
    mapped [] h = tt
    mapped (l ∷ ls) h = (h.0, mapped ls h.1)

-- two leaves differ in number
abbrev Differ : Leaf → Leaf → Type 0
Differ l m = l.num ≡ m.num → ⊥

mutual
  leaves_differ : (t : Tree) → AreApart t → EachPair Differ (leaves t)
  leaves_differ (one l) h = (tt, tt)
  leaves_differ (join op ts) h = all_leaves_differ ts h
  leaves_differ (scale t s) h = leaves_differ t h
  leaves_differ (barrier t v) h = leaves_differ t h

  all_leaves_differ : (ts : Trees) → AreApartOf ts → EachPair Differ (leaves_of ts)
  all_leaves_differ none h = tt
  all_leaves_differ (more t ts) h =
      EachPair-append Differ (leaves t) (leaves_of ts) (leaves_differ t h.0) (all_leaves_differ ts h.1)
      (Each-from (λ l. Each (Differ l) (leaves_of ts)) (leaves t) (λ l at.
      Each-from (Differ l) (leaves_of ts) (λ m there e. h.2 l.num (number_of t l at) (subst (Contains _) (sym e) (number_of_all ts m there)))))

-- two leaves with their bids are not of one job and number
abbrev AreOther : Ask → Ask → Type 0
AreOther c d = c.bid.job ≡ d.bid.job → c.leaf.num ≡ d.leaf.num → ⊥

asks_other : (bs : List Bid) → Each (λ b. AreApart b.expr) bs → EachPair (λ b c. b.job ≡ c.job → ⊥) bs → EachPair AreOther (asks bs)
asks_other [] h jobs = tt
asks_other (b ∷ bs) h jobs =
    EachPair-append AreOther (map (ask b) (leaves b.expr)) (asks bs) (own (leaves b.expr) (leaves_differ b.expr h.0)) (asks_other bs h.1 jobs.1)
    (across (leaves b.expr))
  where
    own_one : (l : Leaf) (ls : List Leaf) → Each (Differ l) ls → Each (AreOther (ask b l)) (map (ask b) ls)
    own_one l [] k = tt
    own_one l (m ∷ ls) k = ((λ job num. k.0 num), own_one l ls k.1)

    own : (ls : List Leaf) → EachPair Differ ls → EachPair AreOther (map (ask b) ls)
    own [] k = tt
    own (l ∷ ls) k = (own_one l ls k.0, own ls k.1)

    across : (ls : List Leaf) → Each (λ c. Each (AreOther c) (asks bs)) (map (ask b) ls)
    across [] = tt
    across (l ∷ ls) = (
      each_ask (AreOther (ask b l)) bs (λ c at m below job num. Each-at (λ d. b.job ≡ d.job → ⊥) bs c jobs.0 at job),
      across ls,
    )

module _ (i : Space) (os : List Bid) (parts : List (List ℕ)) (a : List Grant) (keep : ℕ → List Grant) (fair : IsFair i os parts a keep) where
  -- how many nodes of a partition the grants give to a leaf
  abbrev pub given : Bid → Leaf → ℕ → ℕ
  given b l p = granted_in a b.job l.num (part_at parts p)

  -- a leaf of a bid that uses its nodes in this slot
  record IsHeldAsk (t : ℕ) (c : Ask) : Type 0 where
    among : Contains os c.bid
    below : Contains (leaves c.bid.expr) c.leaf
    covered : covers c.leaf t ≡ true

  module _ (t : ℕ) where
    early : (l : Leaf) → covers l t ≡ true → (l.start ≤ t) × (t < l.start + l.dur)
    early l e =
        let both = and_parts (nat_le l.start t) (nat_lt t (l.start + l.dur)) e in
        (le_from_test l.start t both.0, lt_from_test t (l.start + l.dur) both.1)

    abbrev on : List Ask → Grant → Bool
    on cs = suits_some (λ c. c.bid.job) (λ c. c.leaf.num) cs

    abbrev free_now : ℕ → Bool
    free_now n = is_free i n t

    which : (cs : List Ask) (g : Grant) (Q : Type 0) → Each (IsHeldAsk t) cs → ((c : Ask) → IsHeldAsk t c → suits c.bid.job c.leaf.num g ≡ true → Q) → on cs g ≡ true → Q
    which cs g Q h f e = any_which (λ c. suits c.bid.job c.leaf.num g) (IsHeldAsk t) Q cs h f e

    on_right : (cs : List Ask) → Each (IsHeldAsk t) cs → Each (IsOnRight (on cs) free_now) a
    on_right cs h = Each-from (IsOnRight (on cs) free_now) a (λ g at e. which cs g _ h (λ c k s. right_one g at c k s) e)
      where
        right_one : (g : Grant) → Contains a g → (c : Ask) → IsHeldAsk t c → suits c.bid.job c.leaf.num g ≡ true →
            Ascends g.nodes × ((n : ℕ) → has g.nodes n ≡ true → is_free i n t ≡ true)
        right_one g at c k s =
            let r = Each-at (λ h. suits c.bid.job c.leaf.num h ≡ true → IsRightFor i c.leaf h.nodes) a g (fair.right c.bid c.leaf k.among k.below) at s in
            let when = early c.leaf k.covered in
            (r.ascending, λ n there. Each-has (λ m. (slot : ℕ) → c.leaf.start ≤ slot → slot < c.leaf.start + c.leaf.dur → is_free i m slot ≡ true) g.nodes n r.idle there t when.0 when.1)

    on_apart : (cs : List Ask) → Each (IsHeldAsk t) cs → EachPair (ShareNone (on cs) free_now) a
    on_apart cs h =
        EachPair-with (λ g. Unit {0}) (HoldsApart i os parts a keep) (ShareNone (on cs) free_now)
        (λ g k u v apart e f n p q.
        which cs g ⊥ h (λ c j s. which cs k ⊥ h (λ d l r.
        apart c.bid d.bid c.leaf d.leaf j.among l.among j.below l.below s r n t p q (early c.leaf j.covered).0 (early c.leaf j.covered).1 (early d.leaf l.covered).0 (early d.leaf l.covered).1) f) e)
        a (Each-all (λ g. Unit {0}) (λ g. tt) a) fair.apart

    -- what all these leaves have of a partition in the slot is free there
    supply_of : (p : ℕ) (cs : List Ask) → Each (IsHeldAsk t) cs → EachPair AreOther cs → sum_of (λ c. given c.bid c.leaf p) cs ≤ available i parts p t
    supply_of p cs h other =
        le_trans
        (shares_le (λ c. c.bid.job) (λ c. c.leaf.num) (part_at parts p) cs a each_other)
        (held_le_free (on cs) free_now (part_at parts p) a (on_right cs h) (on_apart cs h))
      where
        each_other : (g : Grant) → EachPair (λ c d. suits c.bid.job c.leaf.num g ≡ true → suits d.bid.job d.leaf.num g ≡ true → ⊥) cs
        each_other g =
            EachPair-with (λ c. Unit {0}) AreOther (λ c d. suits c.bid.job c.leaf.num g ≡ true → suits d.bid.job d.leaf.num g ≡ true → ⊥)
            (λ c d u v o s r.
            let one = and_parts (g.job == c.bid.job) (g.leaf == c.leaf.num) s in
            let two = and_parts (g.job == d.bid.job) (g.leaf == d.leaf.num) r in
            o (sym (eq_from_test g.job c.bid.job one.0) ∙ eq_from_test g.job d.bid.job two.0)
            (sym (eq_from_test g.leaf c.leaf.num one.1) ∙ eq_from_test g.leaf d.leaf.num two.1)) cs (Each-all (λ c. Unit {0}) (λ c. tt) cs) other

  all_asked : Each (λ c. Contains os c.bid × Contains (leaves c.bid.expr) c.leaf) (asks os)
  all_asked = each_ask (λ c. Contains os c.bid × Contains (leaves c.bid.expr) c.leaf) os (λ b at l below. (at, below))

  -- what a leaf has of a partition, where it uses it in the slot
  abbrev cell : Ask → ℕ → ℕ → ℕ
  cell c p t = cond (covers c.leaf t) (given c.bid c.leaf p) 0

  cells_fit : (p t : ℕ) → sum_of (λ c. cell c p t) (asks os) ≤ available i parts p t
  cells_fit p t =
      let uses = λ (c : Ask). covers c.leaf t in
      let held : Each (IsHeldAsk t) (filter uses (asks os)) =
      Each-both (λ c. Contains os c.bid × Contains (leaves c.bid.expr) c.leaf) (λ c. uses c ≡ true) (IsHeldAsk t) (λ c k e. record { among = k.0; below = k.1; covered = e }) (filter uses (asks os))
      (Each-filter _ uses (asks os) all_asked) (Each-passed (λ c. uses c ≡ true) uses (λ c e. e) (asks os)) in
      let other = asks_other os (Each-map _ (λ b. AreApart b.expr) (λ b h. h.1) os fair.sound) fair.jobs in
      subst (λ n. n ≤ available i parts p t) (sum_of-filter (λ c. given c.bid c.leaf p) uses (asks os))
      (supply_of t p (filter uses (asks os)) held (EachPair-filter AreOther uses (asks os) other))

  module _ (price : ℕ → ℕ → ℕ) where
    -- what a leaf is charged for its grants
    abbrev pub charge : Bid → Leaf → ℕ
    charge b l = sum_of (λ p. given b l p * node_cost i parts price l p) (parts_in i parts l.set)

    by_cells : (c : Ask) → charge c.bid c.leaf ≤ sum_of (λ p. sum_of (λ t. price p t * cell c p t) (window_slots i)) (part_numbers parts)
    by_cells c =
        let f = λ (p : ℕ). given c.bid c.leaf p * node_cost i parts price c.leaf p in
        let g = λ (p : ℕ). sum_of (λ t. price p t * cell c p t) (window_slots i) in
        le_trans (sum_of-filter-le f (λ p. list_all (has (set_at i c.leaf.set)) (part_at parts p)) (part_numbers parts))
        (subst (λ n. n ≤ sum_of g (part_numbers parts)) (sym (sum_of-eq f g (part_numbers parts) (Each-all _ same (part_numbers parts)))) (omega arith))
      where
        turned : (b : Bool) (n m : ℕ) → n * cond b m 0 ≡ m * cond b n 0
        turned true n m = mul_comm n m
        turned false n m = mul-zero n ∙ sym (mul-zero m)

        same : (p : ℕ) → given c.bid c.leaf p * node_cost i parts price c.leaf p ≡ sum_of (λ t. price p t * cell c p t) (window_slots i)
        same p =
            sym (sum_of-times (given c.bid c.leaf p) (λ t. cond (covers c.leaf t) (price p t) 0) (window_slots i))
            ∙ sum_of-eq (λ t. given c.bid c.leaf p * cond (covers c.leaf t) (price p t) 0) (λ t. price p t * cell c p t) (window_slots i)
            (Each-all _ (λ t. turned (covers c.leaf t) (given c.bid c.leaf p) (price p t)) (window_slots i))

    -- all charges together
    pub charges_le : sum_of (λ b. sum_of (charge b) (leaves b.expr)) os ≤ supply_cost i parts price
    charges_le =
        subst (λ n. n ≤ supply_cost i parts price) (sym (asks_sum (λ c. charge c.bid c.leaf) os))
        (le_trans
        (sum_of-le (λ c. charge c.bid c.leaf) (λ c. sum_of (λ p. sum_of (λ t. price p t * cell c p t) (window_slots i)) (part_numbers parts)) (asks os) (Each-all _ by_cells (asks os)))
        (weighed cell price (available i parts) (asks os) (window_slots i) cells_fit (part_numbers parts)))
