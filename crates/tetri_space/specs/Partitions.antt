-- Groups of nodes that the live leaves and the closures cannot tell apart, and how many of their
-- nodes are free.
use Rattle.std.specs.Prelude.{◌≡◌, ℕ, ◌+◌, ◌<◌, Bool, ◌&&◌, not, nat_lt, max, List, [], ◌∷◌, ◌++◌, map, length, slice_index_or, Contains, Option, Some, None}
use Rattle.std.specs.List.{list_any, list_all, filter, flat_map, range_with_len}
use Rattle.tetri_strl.specs.Prune.{pruned}
use Rattle.tetri_strl.specs.Tree.{Tree, leaves}
use Rattle.tetri_space.specs.Free.{is_closed, is_free}
use Rattle.tetri_base.specs.Lists.{has, same, count}
pub use Rattle.tetri_space.specs.Space.{set_at}
use Rattle.tetri_space.specs.Space.{Bid, Space, bid}
use Rattle.tetri_space.specs.declared.parts.Partitions as made

-- a job with what is left of its expression, before further bids; none where nothing is left
abbrev pub with_left : ℕ → Option Tree → List Bid → List Bid
with_left job None bs = bs
with_left job (Some t) bs = record { job = job; expr = t } ∷ bs

-- what is left of the bids without the leaves that start outside the slots from `from` to `to - 1`
abbrev pub bids_left : ℕ → ℕ → List Bid → List Bid
bids_left from to [] = []
bids_left from to (b ∷ bs) = with_left b.job (pruned from to b.expr) (bids_left from to bs)

-- what is left of the bids in the window
abbrev pub live_bids : Space → List Bid
live_bids s = bids_left s.now (s.now + s.window) s.bids

-- the numbers of the sets that the leaves of bids name
abbrev pub sets_in : List Bid → List ℕ
sets_in [] = []
sets_in (b ∷ bs) = map (λ l. l.set) (leaves b.expr) ++ sets_in bs

-- these sets
abbrev pub asked : Space → List Bid → List (List ℕ)
asked s bs = map (set_at s) (sets_in bs)

-- two nodes are in exactly the same sets
abbrev pub alike : List (List ℕ) → ℕ → ℕ → Bool
alike sets m n = list_all (λ s. same (has s m) (has s n)) sets

-- The node is in some of the asked sets, and no lesser node is in exactly its sets, the marked ones
-- among them.
abbrev pub leads : List (List ℕ) → List (List ℕ) → List ℕ → ℕ → Bool
leads asks marks nodes n = list_any (λ s. has s n) asks
    && not (list_any (λ m. nat_lt m n && alike (asks ++ marks) m n) nodes)

-- the largest groups of nodes that are in exactly the same asked and marked sets, by least node;
-- nodes in no asked set are in none
abbrev pub groups : List (List ℕ) → List (List ℕ) → List ℕ → List (List ℕ)
groups asks marks nodes = map (λ n. filter (alike (asks ++ marks) n) nodes)
    (filter (leads asks marks nodes) nodes)

abbrev pub nodes_of : Space → List ℕ
nodes_of s = range_with_len 0 s.nodes

-- The slots from now on in which some node closes or opens. Between two of them no node does.
abbrev pub turns : Space → List ℕ
turns s = flat_map (λ c. max s.now c.from ∷ max s.now (c.to + 1) ∷ []) s.closures

-- the nodes that are closed in a slot
abbrev pub closed_at : Space → ℕ → List ℕ
closed_at s t = filter (λ n. is_closed s n t) (nodes_of s)

-- the nodes that are closed, at each turn
abbrev pub closed_sets : Space → List (List ℕ)
closed_sets s = map (closed_at s) (turns s)

-- The partitions of the nodes: by the sets of the live leaves, and by the slots from now on in
-- which they are closed.
abbrev pub partitions : Space → List (List ℕ)
partitions s = groups (asked s (live_bids s)) (closed_sets s) (nodes_of s)

-- the nodes of the partition of this number
abbrev pub part_at : List (List ℕ) → ℕ → List ℕ
part_at parts p = slice_index_or parts p []

-- the numbers of the partitions whose nodes are all in this set, ascending
abbrev pub parts_in : Space → List (List ℕ) → ℕ → List ℕ
parts_in s parts k = filter (λ p. list_all (has (set_at s k)) (part_at parts p))
    (range_with_len 0 (length parts))

-- a node of the partition of this number is closed in this slot; from now on then all of them are
abbrev pub is_closed_part : Space → List (List ℕ) → ℕ → ℕ → Bool
is_closed_part s parts p t = list_any (λ n. is_closed s n t) (part_at parts p)

-- how many nodes of a partition are free in a slot
abbrev pub available : Space → List (List ℕ) → ℕ → ℕ → ℕ
available s parts p t = count (λ n. is_free s n t) (part_at parts p)

-- What was found of an instance: what is left of its bids in the window, the nodes of each
-- partition, and the partitions in each set that a live leaf names.
pub record Parts : Type 0 where
  pub bids : List Bid
  pub groups : List (List ℕ)
  pub inside : List (List ℕ)

-- what partitions say
abbrev pub parts_of : made.Partitions → Parts
parts_of p = record {
  bids = map bid p.offers.items;
  groups = p.groups.items;
  inside = map (λ v. v.items) p.inside.items;
}

-- the partitions in the set of this number, if some live leaf names it
abbrev pub parts_found : Parts → ℕ → List ℕ
parts_found p k = slice_index_or p.inside k []

-- the set's partitions were found
pub record IsFoundIn (s : Space) (p : Parts) (k : ℕ) : Type 0 where
  pub known : k < length p.inside
  pub parts : parts_found p k ≡ parts_in s (partitions s) k

-- these are the partitions of the instance
pub record ArePartitionsOf (s : Space) (p : Parts) : Type 0 where
  pub bids : p.bids ≡ live_bids s
  pub groups : p.groups ≡ partitions s
  pub inside : (k : ℕ) → Contains (sets_in (live_bids s)) k → IsFoundIn s p k
