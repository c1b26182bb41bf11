-- The grants that nodes in order make.
use Rattle.std.proofs.Common.{◌≡◌, ℕ, ◌+◌, ◌<◌, ◌≤◌, ◌==◌, ◌&&◌, ◌||◌, Bool, true, false, cond, List, [], ◌∷◌, length, map, Contains, refl, sym, ap, ◌∙◌, subst, arith, true≢false}
use Rattle.std.specs.Prelude.{nat_lt}
use Rattle.std.proofs.lemmas.Bool.{cond_both, and_parts}
use Rattle.std.proofs.lemmas.Bool.Decides.{nat_tests}
use Rattle.tetri_strl.specs.declared.grants.Grant.{Grant}
use Rattle.tetri_strl.specs.Worth.{granted}
use Rattle.tetri_base.specs.Lists.{sum_of, Each, EachPair, Ascends}
use Rattle.tetri_base.proofs.ListLaws.{eq_from_test, sum_of-eq, sum_of-zero, sum_of-one, sum_of-map, sum_of-append, Each-map, Each-all, Each-both, Each-at, Each-from}
use Rattle.tetri_compile.specs.Allotted.{suits}
use Rattle.tetri_compile.proofs.ProgramLaws.{granted_total}
use Rattle.tetri_assign.specs.Assigned.{Piece, held, all_held, held_before, give, gathered, grant}
use Rattle.tetri_base.specs.Order.{in_order}
use Rattle.tetri_assign.specs.declared.held.Held.{Held}
use Rattle.tetri_base.proofs.OrderLaws.{Each-in_order, EachPair-in_order, in_order-rises, order_by, order_then, IsOrder, NotAfter, sum_of-in_order}

-- the leaf got the node
abbrev pub goes_to : ℕ → ℕ → Held → Bool
goes_to job leaf h = h.job == job && h.leaf == leaf

-- ---- a number of each node of a leaf's grants
module _ (w : ℕ → ℕ) (job leaf : ℕ) where
  abbrev pub weigh : List Grant → ℕ
  weigh a = sum_of (λ g. cond (suits job leaf g) (sum_of w g.nodes) 0) a

  weigh-give : (h : Held) (gs : List Grant) → weigh (give h gs) ≡ cond (goes_to job leaf h) (w h.node) 0 + weigh gs
  weigh-give h [] = by_test (goes_to job leaf h)
    where
      by_test : (b : Bool) → cond b (w h.node + 0) 0 + 0 ≡ cond b (w h.node) 0 + 0
      by_test true = omega arith
      by_test false = refl
  weigh-give h (g ∷ gs) =
      cond_both (g.job == h.job && g.leaf == h.leaf) (grant g.job g.leaf (h.node ∷ g.nodes) ∷ gs) (grant h.job h.leaf (h.node ∷ []) ∷ g ∷ gs)
      (λ zs. weigh zs ≡ cond (goes_to job leaf h) (w h.node) 0 + (cond (suits job leaf g) (sum_of w g.nodes) 0 + weigh gs))
      (λ e.
      let both = and_parts (g.job == h.job) (g.leaf == h.leaf) e in
      let same : suits job leaf g ≡ goes_to job leaf h = ap (λ j. j == job && g.leaf == leaf) (eq_from_test g.job h.job both.0) ∙ ap (λ l. h.job == job && l == leaf) (eq_from_test g.leaf h.leaf both.1) in
      joined (suits job leaf g) (goes_to job leaf h) same)
      (λ e. apart (goes_to job leaf h))
    where
      joined : (b c : Bool) → b ≡ c → cond b (w h.node + sum_of w g.nodes) 0 + weigh gs ≡ cond c (w h.node) 0 + (cond b (sum_of w g.nodes) 0 + weigh gs)
      joined true true e = omega arith
      joined true false e = absurd (true≢false e)
      joined false true e = absurd (true≢false (sym e))
      joined false false e = omega arith

      apart : (b : Bool) → cond b (w h.node + 0) 0 + (cond (suits job leaf g) (sum_of w g.nodes) 0 + weigh gs) ≡ cond b (w h.node) 0 + (cond (suits job leaf g) (sum_of w g.nodes) 0 + weigh gs)
      apart true = omega arith
      apart false = refl

  weigh-gathered : (hs : List Held) → weigh (gathered hs) ≡ sum_of (λ h. cond (goes_to job leaf h) (w h.node) 0) hs
  weigh-gathered [] = refl
  weigh-gathered (h ∷ hs) = omega (arith, weigh-give h (gathered hs), weigh-gathered hs)

  of_piece : (q : Piece) → sum_of (λ h. cond (goes_to job leaf h) (w h.node) 0) (map (held q.tally) q.nodes) ≡ cond (q.tally.job == job && q.tally.leaf.num == leaf) (sum_of w q.nodes) 0
  of_piece q = sum_of-map (λ h. cond (goes_to job leaf h) (w h.node) 0) (held q.tally) q.nodes ∙ by_test (q.tally.job == job && q.tally.leaf.num == leaf)
    where
      by_test : (b : Bool) → sum_of (λ n. cond b (w n) 0) q.nodes ≡ cond b (sum_of w q.nodes) 0
      by_test true = refl
      by_test false = sum_of-zero q.nodes

  of_pieces : (ps : List Piece) →
      sum_of (λ h. cond (goes_to job leaf h) (w h.node) 0) (all_held ps) ≡ sum_of (λ q. cond (q.tally.job == job && q.tally.leaf.num == leaf) (sum_of w q.nodes) 0) ps
  of_pieces [] = refl
  of_pieces (q ∷ qs) = omega (arith, sum_of-append (λ h. cond (goes_to job leaf h) (w h.node) 0) (map (held q.tally) q.nodes) (all_held qs), of_piece q, of_pieces qs)

  -- what the grants have of a leaf is what its pieces have
  pub weigh_pieces : (ps : List Piece) →
      weigh (gathered (in_order held_before (all_held ps))) ≡ sum_of (λ q. cond (q.tally.job == job && q.tally.leaf.num == leaf) (sum_of w q.nodes) 0) ps
  weigh_pieces ps =
      weigh-gathered (in_order held_before (all_held ps)) ∙ sum_of-in_order held_before (λ h. cond (goes_to job leaf h) (w h.node) 0) (all_held ps) ∙ of_pieces ps

pub granted_weigh : (a : List Grant) (job leaf : ℕ) → granted a job leaf ≡ weigh (λ n. 1) job leaf a
granted_weigh a job leaf =
    granted_total a job leaf
    ∙ sum_of-eq (λ g. cond (suits job leaf g) (length g.nodes) 0) (λ g. cond (suits job leaf g) (sum_of (λ n. 1) g.nodes) 0) a
    (Each-all _ (λ g. ap (λ n. cond (suits job leaf g) n 0) (sym (sum_of-one g.nodes))) a)

-- ---- grants by job and leaf, each ascending
pub held_order : IsOrder held_before
held_order = order_then (λ (a : Held). a.job) _ (order_then (λ (a : Held). a.leaf) _ (order_by (λ (a : Held). a.node)))

same_job : (a b : Held) → held_before a b ≡ false → held_before b a ≡ false → a.job ≡ b.job
same_job a b p q = grind (arith, nat_tests)

same_number : (a b : Held) → held_before a b ≡ false → held_before b a ≡ false → a.leaf ≡ b.leaf
same_number a b p q = grind (arith, nat_tests)

same_node : (a b : Held) → held_before a b ≡ false → held_before b a ≡ false → a.node ≡ b.node
same_node a b p q = grind (arith, nat_tests)

same_parts : (a b : Held) → a.job ≡ b.job → a.leaf ≡ b.leaf → a.node ≡ b.node → a ≡ b
same_parts a b job leaf node =
    let made : ℕ → ℕ → ℕ → Held = λ j l n. record { job = j; leaf = l; node = n } in
    ap (λ j. made j a.leaf a.node) job ∙ ap (λ l. made b.job l a.node) leaf ∙ ap (λ n. made b.job b.leaf n) node

pub same_held : (a b : Held) → NotAfter held_before a b → NotAfter held_before b a → a ≡ b
same_held a b p q = same_parts a b (same_job a b q p) (same_number a b q p) (same_node a b q p)

-- in order and not the same
abbrev pub IsBefore : Held → Held → Type 0
IsBefore a b = held_before a b ≡ true

before_from : (a b : Held) → NotAfter held_before a b → (a.job ≡ b.job → a.leaf ≡ b.leaf → a.node ≡ b.node → ⊥) → IsBefore a b
before_from a b rises other = by_test (held_before a b) refl
  where
    by_test : (t : Bool) → held_before a b ≡ t → held_before a b ≡ true
    by_test true e = e
    by_test false e = absurd (other (same_job a b e rises) (same_number a b e rises) (same_node a b e rises))

abbrev pub IsOther : Held → Held → Type 0
IsOther a b = a.job ≡ b.job → a.leaf ≡ b.leaf → a.node ≡ b.node → ⊥

-- where no two are the same, they are in strict order
pub in_order-strict : (hs : List Held) → EachPair IsOther hs → EachPair IsBefore (in_order held_before hs)
in_order-strict hs other =
    both (in_order held_before hs) (in_order-rises held_before held_order hs)
    (EachPair-in_order held_before IsOther (λ a b h p q r. h (sym p) (sym q) (sym r)) hs other)
  where
    both : (xs : List Held) → EachPair (NotAfter held_before) xs → EachPair IsOther xs → EachPair IsBefore xs
    both [] p q = tt
    both (x ∷ xs) p q = (Each-both (NotAfter held_before x) (IsOther x) (IsBefore x) (λ y a b. before_from x y a b) xs p.0 q.0, both xs p.1 q.1)

-- the one grant's leaf comes before the other's
abbrev pub leaf_before : ℕ → ℕ → Grant → Bool
leaf_before job leaf g = nat_lt job g.job || (job == g.job && nat_lt leaf g.leaf)

-- grants that hold these nodes in order
pub record AreGathered (P : Held → Type 0) (a : List Grant) : Type 0 where
  pub some : Each (λ g. 1 ≤ length g.nodes) a
  pub ascending : Each (λ g. Ascends g.nodes) a
  pub from : Each (λ g. Each (λ n. P (record { job = g.job; leaf = g.leaf; node = n })) g.nodes) a
  pub by_leaf : EachPair (λ g k. leaf_before g.job g.leaf k ≡ true) a

-- all nodes of grants come after this one
abbrev Follows : Held → Grant → Type 0
Follows h g = Each (λ n. IsBefore h (record { job = g.job; leaf = g.leaf; node = n })) g.nodes

module _ (P : Held → Type 0) where
  give_gathered : (h : Held) (a : List Grant) → P h → Each (Follows h) a → AreGathered P a → AreGathered P (give h a)
  give_gathered h [] here later made = record { some = (omega arith, tt); ascending = ((tt, tt), tt); from = ((here, tt), tt); by_leaf = (tt, tt) }
  give_gathered h (g ∷ gs) here later made =
      cond_both (g.job == h.job && g.leaf == h.leaf) (grant g.job g.leaf (h.node ∷ g.nodes) ∷ gs) (grant h.job h.leaf (h.node ∷ []) ∷ g ∷ gs) (λ zs. AreGathered P zs)
      (λ e.
      let both = and_parts (g.job == h.job) (g.leaf == h.leaf) e in
      let job = eq_from_test g.job h.job both.0 in
      let leaf = eq_from_test g.leaf h.leaf both.1 in
      record {
        some = (omega arith, made.some.1);
        ascending = ((Each-map (λ n. IsBefore h (record { job = g.job; leaf = g.leaf; node = n })) (λ n. h.node < n) (λ n t. above h g.job g.leaf n job leaf t) g.nodes later.0, made.ascending.0), made.ascending.1);
        from = ((at_leaf g.job g.leaf job leaf, made.from.0), made.from.1);
        by_leaf = made.by_leaf;
      })
      (λ e. record {
        some = (omega arith, made.some);
        ascending = ((tt, tt), made.ascending);
        from = ((here, tt), made.from);
        by_leaf =
            (Each-from (λ k. leaf_before h.job h.leaf k ≡ true) (g ∷ gs) (λ k at. behind k at e), made.by_leaf);
      })
    where
      above : (a : Held) (j l n : ℕ) → j ≡ a.job → l ≡ a.leaf → held_before a (record { job = j; leaf = l; node = n }) ≡ true → a.node < n
      above a j l n p q t = grind (arith, nat_tests)

      at_leaf : (j l : ℕ) → j ≡ h.job → l ≡ h.leaf → P (record { job = j; leaf = l; node = h.node })
      at_leaf j l p q = subst (λ (m : ℕ). P (record { job = m; leaf = l; node = h.node })) (sym p) (subst (λ (m : ℕ). P (record { job = h.job; leaf = m; node = h.node })) (sym q) here)

      first_leaf : (a : Held) (j l n : ℕ) → (j == a.job && l == a.leaf) ≡ false → held_before a (record { job = j; leaf = l; node = n }) ≡ true →
          (nat_lt a.job j || (a.job == j && nat_lt a.leaf l)) ≡ true
      first_leaf a j l n e t = grind (arith, nat_tests)

      leaf_trans : (a : Held) (j l k m : ℕ) → (nat_lt a.job j || (a.job == j && nat_lt a.leaf l)) ≡ true → (nat_lt j k || (j == k && nat_lt l m)) ≡ true →
          (nat_lt a.job k || (a.job == k && nat_lt a.leaf m)) ≡ true
      leaf_trans a j l k m p q = grind (arith, nat_tests)

      some_first : (ns : List ℕ) (Q : ℕ → Type 0) (R : Type 0) → 1 ≤ length ns → Each Q ns → ((n : ℕ) → Q n → R) → R
      some_first [] Q R lt each f = absurd (omega arith)
      some_first (n ∷ ns) Q R lt each f = f n each.0

      before_first : (g.job == h.job && g.leaf == h.leaf) ≡ false → leaf_before h.job h.leaf g ≡ true
      before_first e = some_first g.nodes (λ n. IsBefore h (record { job = g.job; leaf = g.leaf; node = n })) (leaf_before h.job h.leaf g ≡ true) made.some.0 later.0 (λ n t. first_leaf h g.job g.leaf n e t)

      behind : (k : Grant) → Contains (g ∷ gs) k → (g.job == h.job && g.leaf == h.leaf) ≡ false → leaf_before h.job h.leaf k ≡ true
      behind k at e =
          Each-at (λ m. leaf_before h.job h.leaf m ≡ true) (g ∷ gs) k
          (before_first e, Each-map (λ m. leaf_before g.job g.leaf m ≡ true) (λ m. leaf_before h.job h.leaf m ≡ true) (λ m t. leaf_trans h g.job g.leaf m.job m.leaf (before_first e) t) gs made.by_leaf.0) at

-- grants from nodes in strict order, each with a fact of its nodes
gathered-both : (P : Held → Type 0) (hs : List Held) → EachPair IsBefore hs → Each P hs → AreGathered P (gathered hs)
gathered-both P [] rises each = record { some = tt; ascending = tt; from = tt; by_leaf = tt }
gathered-both P (h ∷ hs) rises each =
    give_gathered P h (gathered hs) each.0 (gathered-both (IsBefore h) hs rises.1 rises.0).from (gathered-both P hs rises.1 each.1)

pub gathered_right : (P : Held → Type 0) (hs : List Held) → EachPair IsOther hs → Each P hs → AreGathered P (gathered (in_order held_before hs))
gathered_right P hs other each = gathered-both P (in_order held_before hs) (in_order-strict hs other) (Each-in_order held_before P hs each)
