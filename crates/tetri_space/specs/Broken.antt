-- Which rule an allotment breaks first.
use Rattle.std.specs.Prelude.{◌≡◌, ◌≢◌, ℕ, ◌<◌, ◌≤◌, List, All, Contains, length, take, slice_get, IsSomeAnd}
use Rattle.std.specs.List.Sorted.{IsStrictlyIncreasing}
use Rattle.tetri_strl.specs.declared.expr.Leaf.{Leaf}
use Rattle.tetri_strl.specs.declared.grants.Grant.{Grant}
use Rattle.tetri_space.specs.declared.rules.Rule.{Rule}
use Rattle.tetri_space.specs.declared.rules.Rule.TheVariants.{NotPending, NotLive, Doubled, BadNodes, TooMany, Outside, NotFree, Clash}
use Rattle.tetri_space.specs.declared.rules.Unlawful.{Unlawful}
use Rattle.tetri_space.specs.Space.{Space, set_of, leaf_in, IsLive, Covers}
use Rattle.tetri_space.specs.Free.{IsFreeThroughout}

-- the least number of which this holds
pub record IsLeast (P : ℕ → Type 0) (n : ℕ) : Type 0 where
  pub holds : P n
  pub least : (m : ℕ) → P m → n ≤ m

-- a slot is in both leaves
abbrev pub HasCommonSlot : Leaf → Leaf → Type 0
HasCommonSlot l m = (slot : ℕ) × Covers l slot × Covers m slot

-- both grants name the same leaf
abbrev pub NamesSameLeaf : Grant → Grant → Type 0
NamesSameLeaf g h = (g.job ≡ h.job) × (g.leaf ≡ h.leaf)

-- the grant holds this one of the nodes in a slot of the leaf
abbrev pub ClashesAt : Space → Leaf → List ℕ → Grant → ℕ → Type 0
ClashesAt s l nodes g n = Contains nodes n × Contains g.nodes n
    × IsSomeAnd (leaf_in s.bids g.job g.leaf) (HasCommonSlot l)

-- of the nodes, `n` is the least at which a grant clashes, and the grant at place `i` is the first
-- that clashes there
pub record IsFirstClash (s : Space) (l : Leaf) (nodes : List ℕ) (grants : List Grant)
    (i n : ℕ) : Type 0 where
  pub node : IsLeast (λ m. (p : ℕ)
      × IsSomeAnd (slice_get grants p) (λ g. ClashesAt s l nodes g m)) n
  pub place : IsLeast (λ p. IsSomeAnd (slice_get grants p) (λ g. ClashesAt s l nodes g n)) i

-- a grant `g` that comes after these earlier ones
module _ (s : Space) (earlier : List Grant) (g : Grant) where
  -- this holds of the leaf that the grant names
  abbrev pub OfLeaf : (Leaf → Type 0) → Type 0
  OfLeaf P = IsSomeAnd (leaf_in s.bids g.job g.leaf) P

  -- the grant breaks this rule, and it is the rule's node or place that shows it first
  abbrev pub Breaks : Rule → Type 0
  Breaks NotPending = All (λ b. b.job ≢ g.job) s.bids
  Breaks NotLive = OfLeaf (IsLive s) → ⊥
  Breaks (Doubled i) = IsLeast (λ p. IsSomeAnd (slice_get earlier p) (NamesSameLeaf g)) i
  Breaks BadNodes = 1 ≤ length g.nodes → IsStrictlyIncreasing g.nodes → ⊥
  Breaks TooMany = OfLeaf (λ l. l.k < length g.nodes)
  Breaks (Outside n) = OfLeaf (λ l. IsLeast (λ m. Contains g.nodes m
      × (Contains (set_of s l) m → ⊥)) n)
  Breaks (NotFree n) = OfLeaf (λ l. IsLeast (λ m. Contains g.nodes m
      × (IsFreeThroughout s l m → ⊥)) n)
  Breaks (Clash i n) = OfLeaf (λ l. IsFirstClash s l g.nodes earlier i n)

-- where a rule stands among the rules
abbrev pub rank : Rule → ℕ
rank NotPending = 1
rank NotLive = 2
rank (Doubled i) = 3
rank BadNodes = 4
rank TooMany = 5
rank (Outside n) = 6
rank (NotFree n) = 7
rank (Clash i n) = 8

-- of the rules, the first that a grant breaks
pub record IsFirstRule (s : Space) (earlier : List Grant) (g : Grant) (r : Rule) : Type 0 where
  pub broken : Breaks s earlier g r
  pub first : (q : Rule) → Breaks s earlier g q → rank r ≤ rank q

-- the grant at this place breaks the rule
abbrev pub IsBroken : Space → List Grant → Unlawful → Type 0
IsBroken s a u = IsSomeAnd (slice_get a u.grant) (λ g. Breaks s (take u.grant a) g u.rule)

-- the first rule that the first grant breaks of those that break one
pub record IsFirstBroken (s : Space) (a : List Grant) (u : Unlawful) : Type 0 where
  pub rule : IsSomeAnd (slice_get a u.grant) (λ g. IsFirstRule s (take u.grant a) g u.rule)
  pub first : (v : Unlawful) → IsBroken s a v → u.grant ≤ v.grant
