-- Which allotments are lawful.
use Rattle.std.specs.Prelude.{◌≡◌, ℕ, ◌≤◌, List, All, AllPairs, Contains, length, IsSomeAnd}
use Rattle.std.specs.Option.{ForSome}
use Rattle.std.specs.List.Sorted.{IsStrictlyIncreasing}
use Rattle.tetri_strl.specs.declared.expr.Leaf.{Leaf}
use Rattle.tetri_strl.specs.declared.grants.Grant.{Grant}
use Rattle.tetri_space.specs.Space.{Space, set_of, leaf_in, IsLive, Covers}
use Rattle.tetri_space.specs.Free.{IsFreeThroughout}

-- at least one and at most `k` nodes of the leaf's set, ascending, each free in every slot of the
-- leaf
pub record HasRightNodes (s : Space) (l : Leaf) (nodes : List ℕ) : Type 0 where
  pub some : 1 ≤ length nodes
  pub ascending : IsStrictlyIncreasing nodes
  pub few : length nodes ≤ l.k
  pub in_set : All (Contains (set_of s l)) nodes
  pub free : All (IsFreeThroughout s l) nodes

-- the leaf is live, and the nodes are right for it
pub record MayBeGranted (s : Space) (l : Leaf) (nodes : List ℕ) : Type 0 where
  pub live : IsLive s l
  pub nodes_right : HasRightNodes s l nodes

-- the grant names a live leaf of a job of the instance, and its nodes are right for it
abbrev pub IsLawfulGrant : Space → Grant → Type 0
IsLawfulGrant s g = IsSomeAnd (leaf_in s.bids g.job g.leaf) (λ l. MayBeGranted s l g.nodes)

-- no slot is in both leaves
abbrev pub NoCommonSlot : Leaf → Leaf → Type 0
NoCommonSlot l m = (slot : ℕ) → Covers l slot → Covers m slot → ⊥

-- two grants name different leaves, and where they hold the same node they have no slot in common
pub record AreApart (s : Space) (g h : Grant) : Type 0 where
  pub other_leaf : g.job ≡ h.job → g.leaf ≡ h.leaf → ⊥
  pub other_slots : (n : ℕ) → Contains g.nodes n → Contains h.nodes n →
      ForSome (leaf_in s.bids g.job g.leaf)
      (λ l. ForSome (leaf_in s.bids h.job h.leaf) (NoCommonSlot l))

-- each grant is lawful by itself, and each two are apart
pub record IsLawful (s : Space) (a : List Grant) : Type 0 where
  pub grants : All (IsLawfulGrant s) a
  pub apart : AllPairs (AreApart s) a
