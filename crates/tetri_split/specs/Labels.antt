-- Nodes with labels: nodes that jobs link have one label.
use Rattle.std.specs.Prelude.{◌≡◌, ℕ, ◌<◌, ◌==◌, Bool, true, false, if◌then◌else◌, List, [], ◌∷◌, map, length, slice_index, slice_index_or, Contains, All, Option, Some, None}
use Rattle.std.specs.List.{filter, flat_map}
use Rattle.tetri_strl.specs.Tree.{leaves}
use Rattle.tetri_space.specs.Space.{Bid, Space, is_live}

-- the numbers of the sets of a bid's live leaves
abbrev pub live_sets : Space → Bid → List ℕ
live_sets s b = map (λ l. l.set) (filter (is_live s) (leaves b.expr))

-- the nodes of these sets, one set after another
abbrev pub nodes_in : List (List ℕ) → List ℕ → List ℕ
nodes_in sets ks = flat_map (λ k. slice_index_or sets k []) ks

-- the nodes that a bid's live leaves may use
abbrev pub nodes_for : Space → Bid → List ℕ
nodes_for s b = nodes_in s.sets (live_sets s b)

-- the same of each bid
abbrev pub nodes_by_bid : Space → List (List ℕ)
nodes_by_bid s = map (nodes_for s) s.bids

-- two nodes of one of these lists
pub record ShareAList (lists : List (List ℕ)) (m n : ℕ) : Type 0 where
  pub list : List ℕ
  pub among : Contains lists list
  pub has_one : Contains list m
  pub has_other : Contains list n

-- a chain from one node over these nodes to another, in which each two neighbours are in one of the lists
abbrev pub IsChain : List (List ℕ) → ℕ → List ℕ → ℕ → Type 0
IsChain lists m [] o = m ≡ o
IsChain lists m (n ∷ ns) o = ShareAList lists m n × IsChain lists n ns o

-- some chain does
abbrev pub AreLinked : List (List ℕ) → ℕ → ℕ → Type 0
AreLinked lists m o = (ns : List ℕ) × IsChain lists m ns o

-- nodes with one label are linked by these lists
abbrev pub LabelsLink : List (List ℕ) → List ℕ → Type 0
LabelsLink lists labels = (m n : ℕ) → m < length labels → n < length labels → slice_index labels m ≡ slice_index labels n → AreLinked lists m n

-- these nodes have one label
abbrev pub HaveOneLabel : List ℕ → List ℕ → Type 0
HaveOneLabel labels nodes = (m n : ℕ) → Contains nodes m → Contains nodes n → slice_index labels m ≡ slice_index labels n

-- nodes with one label still have one
abbrev pub KeepsLabels : List ℕ → List ℕ → Type 0
KeepsLabels old new = (m n : ℕ) → m < length old → n < length old → slice_index old m ≡ slice_index old n → slice_index new m ≡ slice_index new n

-- the labels once those that are the second node's are the first node's
pub record AreMerged (old : List ℕ) (first second : ℕ) (new : List ℕ) : Type 0 where
  pub count : length new ≡ length old
  pub each : (n : ℕ) → n < length old → slice_index new n ≡
      (if slice_index old n == slice_index old second then slice_index old first else slice_index old n)

-- What joining some nodes makes of labels, where these nodes are of one list of each that is asked for.
pub record AreJoined (nodes old new : List ℕ) : Type 0 where
  pub count : length new ≡ length old
  pub keeps : KeepsLabels old new
  pub links : (lists : List (List ℕ)) (r : List ℕ) → Contains lists r → All (Contains r) nodes → LabelsLink lists old → LabelsLink lists new
  pub small : (b : ℕ) → All (λ x. x < b) old → All (λ x. x < b) new

-- where a set is marked, its nodes are there and have one label
abbrev pub AreMarked : List (List ℕ) → List Bool → List ℕ → Type 0
AreMarked sets marks labels = (k : ℕ) → slice_index_or marks k false ≡ true →
    All (λ n. n < length labels) (slice_index_or sets k []) × HaveOneLabel labels (slice_index_or sets k [])

-- one of these nodes, and none exactly where there is no node
abbrev pub IsOneOf : List ℕ → Option ℕ → Type 0
IsOneOf nodes None = nodes ≡ []
IsOneOf nodes (Some n) = Contains nodes n

-- the label of a node that is there
abbrev pub label_of : List ℕ → Option ℕ → Option ℕ
label_of labels None = None
label_of labels (Some n) = Some (slice_index labels n)

-- two keys that are there and equal
pub record HaveSameKey (a b : Option ℕ) : Type 0 where
  pub same : ℕ
  pub of_one : a ≡ Some same
  pub of_other : b ≡ Some same

-- a node of the one list is linked with a node of the other
pub record HaveALink (lists : List (List ℕ)) (p q : List ℕ) : Type 0 where
  pub one : ℕ
  pub other : ℕ
  pub has_one : Contains p one
  pub has_other : Contains q other
  pub linked : AreLinked lists one other

-- A key for each bid: none where the bid can use no node, the same where two bids can use the same node, and the same only
-- where their nodes are linked.
pub record AreKeysOf (s : Space) (keys : List (Option ℕ)) : Type 0 where
  pub count : length keys ≡ length s.bids
  pub small : (i x : ℕ) → slice_index_or keys i None ≡ Some x → x < s.nodes
  pub none : (i : ℕ) → i < length s.bids → slice_index_or keys i None ≡ None → slice_index_or (nodes_by_bid s) i [] ≡ []
  pub shared : (i j n : ℕ) → i < length s.bids → j < length s.bids → Contains (slice_index_or (nodes_by_bid s) i []) n → Contains (slice_index_or (nodes_by_bid s) j []) n →
      HaveSameKey (slice_index_or keys i None) (slice_index_or keys j None)
  pub linked : (i j : ℕ) → i < length s.bids → j < length s.bids → HaveSameKey (slice_index_or keys i None) (slice_index_or keys j None) →
      HaveALink (nodes_by_bid s) (slice_index_or (nodes_by_bid s) i []) (slice_index_or (nodes_by_bid s) j [])
