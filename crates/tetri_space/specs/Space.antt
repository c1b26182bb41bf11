-- An instance as plain data: what one cycle is given.
use Rattle.std.specs.Prelude.{ℕ, ◌+◌, ◌==◌, ◌<◌, ◌≤◌, Bool, List, [], map, find, slice_index_or, Option, option_and_then}
use Rattle.tetri_strl.specs.declared.expr.Leaf.{Leaf}
use Rattle.tetri_strl.specs.Prune.{starts_in}
use Rattle.tetri_strl.specs.Tree.{Tree, tree, leaves}
use Rattle.tetri_space.specs.declared.closure.Closure.{Closure}
use Rattle.tetri_space.specs.declared.instance.Instance.{Instance}
use Rattle.tetri_space.specs.declared.instance.Offer.{Offer}

-- what a pending job offers
pub record Bid : Type 0 where
  pub job : ℕ
  pub expr : Tree

-- Slots `now` to `now + window - 1`; `busy_until` and `drained` by node; closures as they were
-- given; the bids by job.
pub record Space : Type 0 where
  pub now : ℕ
  pub window : ℕ
  pub nodes : ℕ
  pub sets : List (List ℕ)
  pub busy_until : List ℕ
  pub drained : List Bool
  pub closures : List Closure
  pub bids : List Bid

abbrev pub bid : Offer → Bid
bid o = record { job = o.job; expr = tree o.expr }

-- what an instance says
abbrev pub space : Instance → Space
space i = record {
  now = i.now;
  window = i.window;
  nodes = i.nodes;
  sets = i.sets.value;
  busy_until = i.busy_until.items;
  drained = i.drained.items;
  closures = i.closures.value;
  bids = map bid i.jobs.items;
}

-- the nodes of the set of this number
abbrev pub set_at : Space → ℕ → List ℕ
set_at s k = slice_index_or s.sets k []

-- the nodes of a leaf's set
abbrev pub set_of : Space → Leaf → List ℕ
set_of s l = set_at s l.set

-- the leaf of this number that this job offers
abbrev pub leaf_in : List Bid → ℕ → ℕ → Option Leaf
leaf_in bids job num =
    option_and_then (λ b. find (λ l. l.num == num) (leaves b.expr)) (find (λ b. b.job == job) bids)

-- the leaf starts in the window
pub record IsLive (s : Space) (l : Leaf) : Type 0 where
  pub not_early : s.now ≤ l.start
  pub not_late : l.start < s.now + s.window

-- the test of it
abbrev pub is_live : Space → Leaf → Bool
is_live s l = starts_in s.now (s.now + s.window) l

-- the leaf uses its nodes in this slot
pub record Covers (l : Leaf) (slot : ℕ) : Type 0 where
  pub begun : l.start ≤ slot
  pub not_over : slot < l.start + l.dur
